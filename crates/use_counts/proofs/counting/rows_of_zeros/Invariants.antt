-- a row for each block so far
use Rattle.use_counts.proofs.Common.{◌≡◌, take, map, replicate, length}
use Rattle.use_counts.proofs.counting.rows_of_zeros.Given as goal

abbrev pub invariant-loop-block : goal.invariant-loop-block
invariant-loop-block l = l.rows.items ≡ map (λ b. replicate (length b.insts) 0) (take l.block-index l.blocks)
