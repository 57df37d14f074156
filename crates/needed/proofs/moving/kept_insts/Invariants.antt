use Rattle.needed.proofs.Common.{marks_by}
use Rattle.needed.proofs.Settling.{Settled}
use Rattle.needed.proofs.moving.kept_insts.Given as goal

-- the kept ones of the instructions before this place are at the front
abbrev pub invariant-loop-place : goal.invariant-loop-place
invariant-loop-place l = Settled (marks_by l.kept.firsts.items l.kept.marks.items) l.fn.block l.fn.insts l.place l.count l.insts.items
