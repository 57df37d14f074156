use Rattle.rule_typing.proofs.Common.{◌≡◌, ℕ, Statement, choices_of, choice_naming, NamingOf}
use Rattle.rule_typing.specs.declared.half.Half.TheVariants as halves
use Rattle.rule_typing.proofs.Among.{SoFar}
use Rattle.rule_typing.proofs.names.other_left_open.Given as goal

abbrev pub invariant-loop-statement : goal.invariant-loop-statement
invariant-loop-statement l = SoFar (λ x. (d : ℕ) → (λ (s : Statement) (d : ℕ). NamingOf (choice_naming halves.Target) (choices_of s) l.name d) x d → l.class ≡ d) l.statements l.statement-index
