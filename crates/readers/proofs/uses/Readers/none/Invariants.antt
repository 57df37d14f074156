-- a row of lists for each block so far
use Rattle.readers.proofs.Common.{◌≡◌, [], take, map, replicate, length}
use Rattle.readers.proofs.uses.Readers.none.Given as goal

abbrev pub invariant-loop-block : goal.invariant-loop-block
invariant-loop-block l = l.results.items ≡ map (λ b. replicate (length b.insts) []) (take l.block-index l.f.blocks)
