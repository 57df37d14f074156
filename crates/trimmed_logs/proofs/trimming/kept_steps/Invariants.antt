use Rattle.trimmed_logs.proofs.Common.{◌+◌, ◌≤◌, length}
use Rattle.trimmed_logs.proofs.trimming.kept_steps.Given as goal

abbrev pub invariant-loop-place : goal.invariant-loop-place
invariant-loop-place l = length l.kept.items + l.place ≤ length l.log

abbrev pub decreases-loop-place : goal.decreases-loop-place
decreases-loop-place l = l.place
