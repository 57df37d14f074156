use Rattle.rule_typing.proofs.Common.{◌≡◌, ℕ, Some, Choice, choice_naming}
use Rattle.rule_typing.specs.declared.half.Half.TheVariants as halves
use Rattle.rule_typing.proofs.Among.{SoFar}
use Rattle.rule_typing.proofs.names.other_by_choices.Given as goal

abbrev pub invariant-loop-choice : goal.invariant-loop-choice
invariant-loop-choice l = SoFar (λ x. (d : ℕ) → (λ (o : Choice) (d : ℕ). choice_naming halves.Target o ≡ Some (l.name, d)) x d → l.class ≡ d) l.choices l.choice-index
