-- How a pass through a block ends, as the code returns it.
use Rattle.std.specs.Prelude.{◌≡◌, ℕ, List, Contains, Option, None, Some}
use Rattle.ops.specs.Flags.{FlagsFit, CastFlagsFit}
use Rattle.ops.specs.Truths.{TruthFits}
use Rattle.ops.specs.declared.value.Value.{Value}
use Rattle.ir_core.specs.Blocks.{Names}
use Rattle.ir_core.specs.Checks.{OperandHasWidth}
use Rattle.ops.specs.Conversion.{CastFits}
use Rattle.ir_core.specs.Run.{Registers, Ending, Undefines, Returns, Goes, OnlyZero, OperandGives, going_by}
use Rattle.ir_core.specs.declared.function.Function.{Function}
use Rattle.ir_core.specs.declared.instruction.Op.{Op}
use Rattle.ir_core.specs.declared.instruction.Op.TheVariants.{Binary, Compare, Unary, Select, Convert, Freeze, Phi}
use Rattle.ir_core.specs.declared.operand.Operand.{Operand}
use Rattle.ir_core.specs.declared.terminator.Terminator.{Terminator}
use Rattle.ir_core.specs.declared.terminator.Terminator.TheVariants as terminators
use Rattle.ir_meaning.specs.declared.terminator.Step.{Step}
use Rattle.ir_meaning.specs.declared.terminator.Step.TheVariants as steps

-- the ending that a step stands for, with what registers hold then
abbrev pub ending_of : Registers → Step → Ending
ending_of held steps.Undefined = Undefines
ending_of held (steps.Return v) = Returns v
ending_of held (steps.Goes to) = Goes to held

-- if the run goes on, then at a successor of block b
abbrev pub GoesFrom : Function → ℕ → Step → Type 0
GoesFrom f b steps.Undefined = Unit {0}
GoesFrom f b (steps.Return v) = Unit {0}
GoesFrom f b (steps.Goes to) = Names f b to

-- control may come to block b from there: from a predecessor, or from none where it is the first block
abbrev pub IsEntered : Function → Option ℕ → ℕ → Type 0
IsEntered f None b = b ≡ 0
IsEntered f (Some c) b = Names f c b

-- the operation is no phi, and its operands, its flags, its truth value and its types fit a result of the width
abbrev pub OpFits : Function → ℕ → Op → Type 0
OpFits f width (Binary op flags x y) = FlagsFit op flags × OperandHasWidth f width x × OperandHasWidth f width y
OpFits f width (Compare pred samesign compared x y) = (width ≡ 1) × OperandHasWidth f compared x × OperandHasWidth f compared y
OpFits f width (Unary op truth x) = TruthFits op truth × OperandHasWidth f width x
OpFits f width (Select c x y) = OperandHasWidth f 1 c × OperandHasWidth f width x × OperandHasWidth f width y
OpFits f width (Convert cast flags from x) = CastFlagsFit cast flags × CastFits cast from width × OperandHasWidth f from x
OpFits f width (Freeze x) = OperandHasWidth f width x
OpFits f width (Phi entries) = ⊥

-- the terminator's operand has its width
abbrev pub EndFits : Function → Terminator → Type 0
EndFits f (terminators.Return a) = OperandHasWidth f f.width a
EndFits f (terminators.Jump to) = Unit {0}
EndFits f (terminators.Branch c to other) = OperandHasWidth f 1 c
EndFits f (terminators.Switch a width other cases) = OperandHasWidth f width a
EndFits f terminators.Unreachable = Unit {0}

-- if the run goes on, then at one of these blocks
abbrev pub GoesTo : List ℕ → Step → Type 0
GoesTo targets steps.Undefined = Unit {0}
GoesTo targets (steps.Return v) = Unit {0}
GoesTo targets (steps.Goes to) = Contains targets to

-- the run goes on at the block for the number; without a number it is undefined behaviour
abbrev pub going_of : (ℕ → ℕ) → Registers → Option ℕ → Ending
going_of to held None = Undefines
going_of to held (Some n) = Goes (to n) held

-- the operand may give a value by which the run goes on as it does by this number
abbrev pub GoesBy : Registers → ℕ → Operand → Option ℕ → Type 0
GoesBy held width a number = (v : Value) × OperandGives OnlyZero held width a v × ((to : ℕ → ℕ) → going_of to held number ≡ going_by to held a v)
