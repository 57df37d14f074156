-- the temporaries of the statements so far are used
use Rattle.rule_reader.proofs.Common.{IsUnused}
use Rattle.rule_reader.proofs.Firsts.{NoneBefore}
use Rattle.rule_reader.proofs.checks.unused.Given as goal

abbrev pub invariant-loop-place : goal.invariant-loop-place
invariant-loop-place l = NoneBefore l.source (IsUnused l.source) l.place
