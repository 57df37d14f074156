-- The operands of a function as written, by place. A terminator's place is the number of instructions before it.
use Rattle.std.specs.Prelude.{ℕ, ◌==◌, if◌then◌else◌, List, [], length, Option, None, Some, slice_get}
use Rattle.ir_tokens.specs.declared.raw.RawFunction.{RawFunction}
use Rattle.ir_tokens.specs.declared.raw.RawBlock.{RawBlock}
use Rattle.ir_tokens.specs.declared.raw.RawInst.{RawInst}
use Rattle.ir_resolve.specs.TypedReads.{Typed, read_by, read_at_end}

-- the operands of the instruction or the terminator at place k of this block
abbrev pub written_by : ℕ → RawBlock → Option RawInst → List Typed
written_by k block (Some inst) = read_by inst.op
written_by k block None = if k == length block.insts then read_at_end block.end else []

abbrev pub written_in : ℕ → Option RawBlock → List Typed
written_in k None = []
written_in k (Some block) = written_by k block (slice_get block.insts k)

-- those at place k of block b, in order
abbrev pub written_at : RawFunction → ℕ → ℕ → List Typed
written_at raw b k = written_in k (slice_get raw.blocks b)
