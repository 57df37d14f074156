use Rattle.ops.proofs.Common.{◌≡◌, Bool, true, false, not, refl, xor, beq}
use Rattle.ops.proofs.comparison.signs_differ.Goals as goal

apart : (a b : Bool) → not (beq a b) ≡ xor a b
unfolding mathlib.Core.Bool.xor
apart true true = refl
apart true false = refl
apart false true = refl
apart false false = refl

pub returns : goal.returns
returns c = rw (c.negative.ensures, c.negative-2.ensures) (apart _ _)
