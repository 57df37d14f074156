use Rattle.fold_branch.proofs.Staying.{Moved}
use Rattle.fold_branch.proofs.entries.move_staying.Given as goal

-- the entries before this place are moved
abbrev pub invariant-loop-place : goal.invariant-loop-place
invariant-loop-place l = Moved l.plan.choices.items l.plan.reached.items l.block l.initial.entries l.place l.count l.entries l.marks
