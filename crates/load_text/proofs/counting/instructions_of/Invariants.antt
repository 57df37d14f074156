use Rattle.load_text.proofs.Common.{◌≡◌, length, take, sum_by}
use Rattle.load_text.proofs.counting.instructions_of.Given as goal

abbrev pub invariant-loop-block : goal.invariant-loop-block
invariant-loop-block l = l.count ≡ sum_by (λ block. length block.insts) (take l.block-index l.block-items)
