use Rattle.rule_typing.proofs.Common.{NamesClass}
use Rattle.rule_typing.proofs.Among.{SoFar}
use Rattle.rule_typing.proofs.open_classes.is_named.Given as goal

abbrev pub invariant-loop-statement : goal.invariant-loop-statement
invariant-loop-statement l = SoFar (λ s. NamesClass l.class s → ⊥) l.statements l.statement-index
