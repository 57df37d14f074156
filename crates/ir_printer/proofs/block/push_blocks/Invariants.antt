use Rattle.ir_printer.proofs.Common.{◌≡◌, ◌++◌, take, flat_map, enumerate_from, block_text}
use Rattle.ir_printer.proofs.block.push_blocks.Given as goal

abbrev pub invariant-loop-place : goal.invariant-loop-place
invariant-loop-place l = l.out.items ≡ l.fn.out.items ++ flat_map (block_text l.called.function.now) (take l.place (enumerate_from 0 l.blocks))
