-- What one value or effect allows.
use Rattle.ops.proofs.Common.{refl, ◌∙◌, Poison, Bits, Undefined, Gives, AllowsValueIsReflexive, AllowsValueIsTransitive, AllowsEffectIsReflexive, AllowsEffectIsTransitive}

-- a value allows itself, and what the values that it allows do
pub AllowsValue-refl : AllowsValueIsReflexive
AllowsValue-refl Poison = tt
AllowsValue-refl (Bits a) = refl

pub AllowsValue-trans : AllowsValueIsTransitive
AllowsValue-trans Poison v w p q = tt
AllowsValue-trans (Bits a) Poison w p q = cc
AllowsValue-trans (Bits a) (Bits b) w p q = q ∙ p

-- and so do effects
pub AllowsEffect-refl : AllowsEffectIsReflexive
AllowsEffect-refl Undefined = tt
AllowsEffect-refl (Gives v) = AllowsValue-refl v

pub AllowsEffect-trans : AllowsEffectIsTransitive
AllowsEffect-trans Undefined e f p q = tt
AllowsEffect-trans (Gives u) Undefined f p q = absurd p
AllowsEffect-trans (Gives u) (Gives v) Undefined p q = absurd q
AllowsEffect-trans (Gives u) (Gives v) (Gives w) p q = AllowsValue-trans u v w p q
