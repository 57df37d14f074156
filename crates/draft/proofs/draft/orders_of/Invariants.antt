-- the orders of the blocks so far
use Rattle.draft.proofs.Common.{◌≡◌, map, take, length, range_with_len}
use Rattle.draft.proofs.draft.orders_of.Given as goal

abbrev pub invariant-loop-block : goal.invariant-loop-block
invariant-loop-block l = l.rows.items ≡ map (λ b. range_with_len 0 (length b.insts)) (take l.block-index l.f.blocks)
