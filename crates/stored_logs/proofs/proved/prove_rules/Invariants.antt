use Rattle.stored_logs.proofs.Common.{take, IsProved}
use Rattle.stored_logs.proofs.proved.prove_rules.Given as goal

abbrev pub invariant-loop-place : goal.invariant-loop-place
invariant-loop-place l = IsProved (take l.place l.rules) l.widths l.conflicts l.proved
