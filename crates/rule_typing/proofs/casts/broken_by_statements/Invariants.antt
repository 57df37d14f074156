use Rattle.rule_typing.proofs.Common.{MeetsCastLine}
use Rattle.rule_typing.proofs.Among.{SoFar}
use Rattle.rule_typing.proofs.casts.broken_by_statements.Given as goal

abbrev pub invariant-loop-statement : goal.invariant-loop-statement
invariant-loop-statement l = SoFar (MeetsCastLine l.widths) l.statements l.statement-index
