-- the flags of the blocks so far
use Rattle.draft.proofs.Common.{◌≡◌, map, take, length, true, replicate}
use Rattle.draft.proofs.draft.all_of.Given as goal

abbrev pub invariant-loop-block : goal.invariant-loop-block
invariant-loop-block l = l.rows.items ≡ map (λ b. replicate (length b.insts) true) (take l.block-index l.f.blocks)
