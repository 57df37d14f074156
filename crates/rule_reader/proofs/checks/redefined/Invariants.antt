-- none of the statements so far assigns an input or a temporary
use Rattle.rule_reader.specs.FaultKinds.{Redefines}
use Rattle.rule_reader.proofs.Firsts.{NoneBefore}
use Rattle.rule_reader.proofs.checks.redefined.Given as goal

abbrev pub invariant-loop-statement : goal.invariant-loop-statement
invariant-loop-statement l = NoneBefore l.fn.rule.target (Redefines l.fn.rule.source) l.statement-index
