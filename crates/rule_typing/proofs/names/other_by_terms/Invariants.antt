use Rattle.rule_typing.proofs.Common.{◌≡◌, ℕ, Some, Term, term_naming}
use Rattle.rule_typing.proofs.Among.{SoFar}
use Rattle.rule_typing.proofs.names.other_by_terms.Given as goal

abbrev pub invariant-loop-term : goal.invariant-loop-term
invariant-loop-term l = SoFar (λ x. (d : ℕ) → (λ (t : Term) (d : ℕ). term_naming t ≡ Some (l.name, d)) x d → l.class ≡ d) l.terms l.term-index
