-- Equal promises.
use Rattle.bindings.proofs.Common.{◌≡◌, ◌↔◌, Bool, true, false, ◌&&◌, IsTrue, refl, sym, ap, ◌∙◌, beq, both, Promises}

same_promises : (p q : Promises) → p.flags ≡ q.flags → p.truth ≡ q.truth → p ≡ q
same_promises p q flags truth =
    let same : ◌≡◌ {A = Promises} (record { flags = p.flags; truth = p.truth }) (record { flags = q.flags; truth = q.truth }) = cc in same

beq-is : (a b : Bool) → beq a b ≡ true → a ≡ b
beq-is true true e = refl
beq-is true false e = absurd cc
beq-is false true e = absurd cc
beq-is false false e = refl

beq-itself : (a : Bool) → beq a a ≡ true
beq-itself true = refl
beq-itself false = refl

-- flags are compared, and then truth values
pub promises_equal : (p q : Promises) (flags equal : Bool) → (IsTrue flags ↔ p.flags ≡ q.flags) → equal ≡ (flags && beq p.truth q.truth) → IsTrue equal ↔ p ≡ q
promises_equal p q flags equal of_flags is = (
  (λ holds. let parts = both _ _ (sym is ∙ holds) in same_promises p q (of_flags.0 parts.0) (beq-is _ _ parts.1)),
  (λ same. is ∙ rw (of_flags.1 (ap (λ (x : Promises). x.flags) same), same) (beq-itself q.truth)),
)
