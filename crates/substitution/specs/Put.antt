-- Blocks in which other instructions replace one.
use Rattle.std.specs.Prelude.{ℕ, ◌+◌, List, ◌++◌, take, drop}
use Rattle.ir_core.specs.declared.function.Block.{Block}
use Rattle.ir_core.specs.declared.instruction.Inst.{Inst}

-- the block with these instructions in the place of its k-th
abbrev pub block_with : ℕ → List Inst → Block → Block
block_with k put block = record { name = block.name; insts = take k block.insts ++ put ++ drop (k + 1) block.insts; end = block.end }
