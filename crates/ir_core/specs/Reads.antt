-- What instructions and terminators read: each operand with its width, and with the place where it is read. Assignment,
-- liveness and use counts are all defined by this one list.
use Rattle.std.specs.Prelude.{◌≡◌, ℕ, ◌==◌, if◌then◌else◌, List, [], ◌∷◌, length, map, Option, None, Some, option_map, unwrap_or, slice_get}
use Rattle.ir_core.specs.declared.function.Function.{Function}
use Rattle.ir_core.specs.declared.function.Block.{Block}
use Rattle.ir_core.specs.declared.instruction.Inst.{Inst}
use Rattle.ir_core.specs.declared.instruction.Op.{Op}
use Rattle.ir_core.specs.declared.instruction.Op.TheVariants.{Binary, Compare, Unary, Select, Convert, Freeze, Phi}
use Rattle.ir_core.specs.declared.operand.Operand.{Operand}
use Rattle.ir_core.specs.declared.read.Read.{Read as ReadOperand}
use Rattle.ir_core.specs.declared.terminator.Terminator.{Terminator}
use Rattle.ir_core.specs.declared.terminator.Terminator.TheVariants as terminators

-- A read of an operand: at which width, and where. At place k of a block its instructions before the k-th have run, and
-- where k is their number all have.
abbrev pub Read : Type 0
Read = ReadOperand

-- an operand read at place k of block b
abbrev pub read : ℕ → ℕ → ℕ → Operand → Read
read b k width a = record { operand = a; width = width; block = b; place = k }

-- how many instructions a block has: the place of its terminator
abbrev pub end_of : Function → ℕ → ℕ
end_of f b = unwrap_or (option_map (λ block. length block.insts) (slice_get f.blocks b)) 0

-- the reads of an instruction of this width at place k of block b; a phi reads each operand at the end of the
-- predecessor that its entry names
abbrev pub reads_of : Function → ℕ → ℕ → ℕ → Op → List Read
reads_of f b k width (Binary op flags x y) = read b k width x ∷ read b k width y ∷ []
reads_of f b k width (Compare pred samesign compared x y) = read b k compared x ∷ read b k compared y ∷ []
reads_of f b k width (Unary op truth x) = read b k width x ∷ []
reads_of f b k width (Select c x y) = read b k 1 c ∷ read b k width x ∷ read b k width y ∷ []
reads_of f b k width (Convert cast flags from x) = read b k from x ∷ []
reads_of f b k width (Freeze x) = read b k width x ∷ []
reads_of f b k width (Phi entries) = map (λ e. read e.1 (end_of f e.1) width e.0) entries

-- the reads of the terminator at place k of block b
abbrev pub reads_at_end : Function → ℕ → ℕ → Terminator → List Read
reads_at_end f b k (terminators.Return a) = read b k f.width a ∷ []
reads_at_end f b k (terminators.Jump to) = []
reads_at_end f b k (terminators.Branch c to other) = read b k 1 c ∷ []
reads_at_end f b k (terminators.Switch a width other cases) = read b k width a ∷ []
reads_at_end f b k terminators.Unreachable = []

-- the reads at place k of this block, which is block b: those of the instruction there, or, where k is the number of
-- instructions, those of the terminator
abbrev pub reads_by : Function → ℕ → ℕ → Block → Option Inst → List Read
reads_by f b k block (Some inst) = reads_of f b k inst.width inst.op
reads_by f b k block None = if k == length block.insts then reads_at_end f b k block.end else []

abbrev pub reads_in : Function → ℕ → ℕ → Option Block → List Read
reads_in f b k None = []
reads_in f b k (Some block) = reads_by f b k block (slice_get block.insts k)

-- the reads of the instruction or the terminator at place k of block b, operand by operand
abbrev pub reads_at : Function → ℕ → ℕ → List Read
reads_at f b k = reads_in f b k (slice_get f.blocks b)

-- operand i of the instruction or the terminator at place k of block b is this read
abbrev pub IsRead : Function → ℕ → ℕ → ℕ → Read → Type 0
IsRead f b k i r = slice_get (reads_at f b k) i ≡ Some r
