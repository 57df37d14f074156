use Rattle.rule_typing.proofs.Common.{StatementLine}
use Rattle.rule_typing.proofs.Walks.{AreOne}
use Rattle.rule_typing.proofs.Among.{SoFar}
use Rattle.rule_typing.proofs.lines.split_by_half.Given as goal

abbrev pub invariant-loop-statement : goal.invariant-loop-statement
invariant-loop-statement l = SoFar (λ x. AreOne ((StatementLine l.rule l.half) x)) l.statements l.statement-index
