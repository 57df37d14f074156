-- When an effect doesn't allow another, told by the bits of both.
use Rattle.blast_rule.proofs.Common.{◌≡◌, ℕ, ◌↔◌, ◌==◌, Bool, true, false, not, ◌&&◌, ◌||◌, if◌then◌else◌, refl, sym, ap, ◌∙◌, eq-eqb, IsTrue, eqb-true, bits, AllowsEffect, Poison, Undefined, Gives, number_or_zero}
use Rattle.blast_rule.proofs.Whole.{falsity}

other_number : (N M n m : ℕ) → M ≡ N → IsTrue (not (n == m)) ↔ ¬ (bits M m ≡ bits N n)
other_number N M n m width = elim (n == m) as (λ e. (n == m) ≡ e → IsTrue (not e) ↔ ¬ (bits M m ≡ bits N n)) [
  | true ↦ λ e. (λ h. absurd (falsity h), λ other. absurd (other (rw (width, eqb-true n m e) refl)))
  | false ↦ λ e. (λ h same. absurd (falsity (sym e ∙ eq-eqb n m (sym (ap number_or_zero same)))), λ other. refl)
] refl

-- The source has no undefined behaviour, and the target has, or the source isn't poison and the target is poison or
-- another number: exactly then the source's effect doesn't allow the target's.
pub refused_where : (su sp tu tp : Bool) (N M n m : ℕ) → M ≡ N
    → IsTrue (not su && (tu || (not sp && (tp || not (n == m)))))
    ↔ ¬ AllowsEffect (if su then Undefined else Gives (if sp then Poison else bits N n)) (if tu then Undefined else Gives (if tp then Poison else bits M m))
refused_where true sp tu tp N M n m width = (λ h. absurd (falsity h), λ refuses. absurd (refuses tt))
refused_where false sp true tp N M n m width = (λ h allows. allows, λ refuses. refl)
refused_where false true false tp N M n m width = (λ h. absurd (falsity h), λ refuses. absurd (refuses tt))
refused_where false false false true N M n m width = (λ h allows. cc, λ refuses. refl)
refused_where false false false false N M n m width = other_number N M n m width
