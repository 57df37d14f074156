-- the uses at the places before this one are replaced
use Rattle.draft_steps.proofs.Common.{drop, IsReplacing}
use Rattle.draft_steps.proofs.replacing.replace.Given as goal

abbrev pub invariant-loop-place : goal.invariant-loop-place
invariant-loop-place l = IsReplacing l.fn.draft l.draft l.swap.from l.swap.to (drop l.place-index l.place-items)
