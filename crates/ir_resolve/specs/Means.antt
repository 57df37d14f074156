-- The meaning of a function as written: the function whose registers and blocks are identified by index.
use Rattle.std.specs.Prelude.{◌≡◌, ℕ, Some}
use Rattle.std.specs.List.{AllZip}
use Rattle.ops.specs.Flags.{no_flags}
use Rattle.ops.specs.Number.{Number}
use Rattle.ir_tokens.specs.declared.called.Identifier.{Identifier}
use Rattle.ir_core.specs.declared.function.Function.{Function}
use Rattle.ir_core.specs.declared.function.Parameter.{Parameter}
use Rattle.ir_core.specs.declared.function.Block.{Block as CoreBlock}
use Rattle.ir_core.specs.declared.instruction.Inst.{Inst}
use Rattle.ir_core.specs.declared.instruction.Op.{Op}
use Rattle.ir_core.specs.declared.instruction.Op.TheVariants as core
use Rattle.ir_core.specs.declared.operand.Operand.{Operand}
use Rattle.ir_core.specs.declared.operand.Operand.TheVariants as operands
use Rattle.ir_core.specs.declared.terminator.Terminator.{Terminator}
use Rattle.ir_core.specs.declared.terminator.Terminator.TheVariants as ends
use Rattle.ir_tokens.specs.declared.raw.RawFunction.{RawFunction}
use Rattle.ir_tokens.specs.declared.raw.RawParameter.{RawParameter}
use Rattle.ir_tokens.specs.declared.raw.RawBlock.{RawBlock}
use Rattle.ir_tokens.specs.declared.raw.RawInst.{RawInst}
use Rattle.ir_tokens.specs.declared.raw.RawOp.{RawOp}
use Rattle.ir_tokens.specs.declared.raw.RawOp.TheVariants as ops
use Rattle.ir_tokens.specs.declared.raw.RawArguments.{RawArguments}
use Rattle.ir_tokens.specs.declared.raw.RawArguments.TheVariants as arguments
use Rattle.ir_tokens.specs.declared.raw.RawTerminator.{RawTerminator}
use Rattle.ir_tokens.specs.declared.raw.RawTerminator.TheVariants as terminators
use Rattle.ir_tokens.specs.declared.raw.RawValue.{RawValue}
use Rattle.ir_tokens.specs.declared.raw.RawValue.TheVariants as values
use Rattle.ir_tokens.specs.declared.raw.RawIncoming.{RawIncoming}
use Rattle.ir_tokens.specs.declared.raw.RawCase.{RawCase}
use Rattle.ir_resolve.specs.Written.{Thing, Value, Block, Calls, given}
use Rattle.ir_resolve.specs.FaultKinds.{literal_of, result_width, truth_of}

-- Given what identifiers refer to:
module _ (CallsThing : Identifier → Thing → Type 0) where
  -- an identifier means the register that it refers to, and a literal its number
  abbrev pub ValueMeans : RawValue → Operand → Type 0
  ValueMeans (values.Register x) (operands.Register r) = CallsThing x (Value r)
  ValueMeans values.Undef operands.Undef = Unit {0}
  ValueMeans values.Poison operands.Poison = Unit {0}
  ValueMeans value (operands.Number n) = literal_of value ≡ Some n
  -- no other operand is meant
  ValueMeans value operand = ⊥

  -- an identifier means the block that it refers to
  abbrev pub BlockMeans : Identifier → ℕ → Type 0
  BlockMeans x b = CallsThing x (Block b)

  abbrev pub IncomingMeans : RawIncoming → Operand × ℕ → Type 0
  IncomingMeans written entry = ValueMeans written.value.value entry.0 × BlockMeans written.block.identifier entry.1

  abbrev pub ArgumentsMean : RawArguments → Op → Type 0
  ArgumentsMean (arguments.Binary op a b) (core.Binary opcode set x y) =
      (opcode ≡ op) × (set ≡ no_flags) × ValueMeans a.operand.value x × ValueMeans b.operand.value y
  ArgumentsMean (arguments.Unary op a truth) (core.Unary intrinsic t x) = (intrinsic ≡ op) × (t ≡ truth_of truth) × ValueMeans a.operand.value x
  -- no other instruction is meant
  ArgumentsMean written op = ⊥

  abbrev pub OpMeans : RawOp → Op → Type 0
  OpMeans (ops.Binary op flags width a b) (core.Binary opcode set x y) = (opcode ≡ op) × (set ≡ flags) × ValueMeans a.value x × ValueMeans b.value y
  OpMeans (ops.Compare pred samesign width a b) (core.Compare p s w x y) = (p ≡ pred) × (s ≡ samesign) × (w ≡ width) × ValueMeans a.value x × ValueMeans b.value y
  OpMeans (ops.Call call) op = ArgumentsMean call.arguments op
  OpMeans (ops.Select c a b) (core.Select z x y) = ValueMeans c.operand.value z × ValueMeans a.operand.value x × ValueMeans b.operand.value y
  OpMeans (ops.Convert cast flags from a to) (core.Convert c g w x) = (c ≡ cast) × (g ≡ flags) × (w ≡ from) × ValueMeans a.value x
  OpMeans (ops.Freeze width a) (core.Freeze x) = ValueMeans a.value x
  OpMeans (ops.Phi width incoming) (core.Phi entries) = AllZip IncomingMeans incoming entries
  -- no other instruction is meant
  OpMeans written op = ⊥

  abbrev pub InstMeans : RawInst → Inst → Type 0
  InstMeans written inst = (inst.name ≡ given (Some written.result)) × (inst.width ≡ result_width written.op) × OpMeans written.op inst.op

  -- a case means the number of its value, and the block that it names
  abbrev pub CaseMeans : RawCase → Number × ℕ → Type 0
  CaseMeans written entry = (literal_of written.value.value ≡ Some entry.0) × BlockMeans written.target.identifier entry.1

  abbrev pub EndMeans : RawTerminator → Terminator → Type 0
  EndMeans (terminators.Return width a) (ends.Return x) = ValueMeans a.value x
  EndMeans terminators.Unreachable ends.Unreachable = Unit {0}
  EndMeans (terminators.Jump to) (ends.Jump b) = BlockMeans to.identifier b
  EndMeans (terminators.Branch width c to other) (ends.Branch x a b) = ValueMeans c.value x × BlockMeans to.identifier a × BlockMeans other.identifier b
  EndMeans (terminators.Switch width a other cases) (ends.Switch x w b entries) =
      (w ≡ width) × ValueMeans a.value x × BlockMeans other.identifier b × AllZip CaseMeans cases entries
  -- no other terminator is meant
  EndMeans written end = ⊥

  abbrev pub BlockIsOf : RawBlock → CoreBlock → Type 0
  BlockIsOf written block = (block.name ≡ given written.label) × AllZip InstMeans written.insts block.insts × EndMeans written.end block.end

abbrev pub ParameterMeans : RawParameter → Parameter → Type 0
ParameterMeans written p = (p.width ≡ written.width) × (p.items ≡ written.items) × (p.name ≡ given written.name)

-- given what identifiers refer to, the function as written means this function
pub record MeansBy (CallsThing : Identifier → Thing → Type 0) (raw : RawFunction) (f : Function) : Type 0 where
  pub name : f.name ≡ raw.name
  pub before : f.before ≡ raw.before
  pub width : f.width ≡ raw.width
  pub parameters : AllZip ParameterMeans raw.parameters f.parameters
  pub after : f.after ≡ raw.after
  pub blocks : AllZip (BlockIsOf CallsThing) raw.blocks f.blocks

-- the function as written means this function
abbrev pub Means : RawFunction → Function → Type 0
Means raw = MeansBy (Calls raw) raw
