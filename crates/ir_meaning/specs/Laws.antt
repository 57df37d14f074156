-- Laws of runs.
use Rattle.std.specs.Prelude.{◌≡◌, ℕ, List, Option, Some, slice_get}
use Rattle.ops.specs.Value.{AllowsValue, AllowsEffect, IsValueOf}
use Rattle.ops.specs.declared.value.Value.{Value}
use Rattle.ops.specs.declared.value.Effect.{Effect}
use Rattle.ir_core.specs.Checks.{MeetsChecks, OperandHasWidth}
use Rattle.ir_core.specs.Names.{width_of}
use Rattle.ir_core.specs.Reads.{Read, reads_of}
use Rattle.ir_core.specs.Refines.{AreArguments}
use Rattle.ir_core.specs.Run.{Registers, AnyNumber, OpGives, PhiGives, HasOutcome, HasZeroOutcome}
use Rattle.ir_core.specs.declared.function.Function.{Function}
use Rattle.ir_core.specs.declared.instruction.Op.{Op}
use Rattle.ir_core.specs.declared.operand.Operand.{Operand}
use Rattle.ir_core.specs.declared.operand.Register.{Register}
use Rattle.ir_core.specs.declared.outcome.Outcome.{Outcome}

-- an outcome in which each number that is left open is 0 is an outcome
abbrev pub ZeroOutcomesAreOutcomes : Type 0
ZeroOutcomesAreOutcomes = (f : Function) (args : List Value) (n : ℕ) (o : Outcome) → HasZeroOutcome f args n o → HasOutcome f args n o

-- a function that meets its checks has an outcome at all arguments, for every bound on the blocks entered
abbrev pub FunctionsHaveOutcomes : Type 0
FunctionsHaveOutcomes = (f : Function) → MeetsChecks f
    → (args : List Value) → AreArguments f.parameters args
    → (n : ℕ) → (o : Outcome) × HasZeroOutcome f args n o × HasOutcome f args n o

-- wherever the second registers hold a value, the first hold one that allows it
abbrev pub HoldAllowing : Registers → Registers → Type 0
HoldAllowing held held' = (r : Register) (v' : Value) → held' r ≡ Some v' → (v : Value) × (held r ≡ Some v) × AllowsValue v v'

-- what a register of the function holds is a value of its width
abbrev pub HoldWidths : Function → Registers → Type 0
HoldWidths f held = (r : Register) (width : ℕ) (v : Value) → width_of f r ≡ Some width → held r ≡ Some v → IsValueOf width v

-- each operand of an instruction of this width has the width at which it is read
abbrev pub OperandsHaveWidths : Function → ℕ → Op → Type 0
OperandsHaveWidths f width op = (b k i : ℕ) (r : Read) → slice_get (reads_of f b k width op) i ≡ Some r → OperandHasWidth f r.width r.operand

-- Instructions are monotone: where registers hold values that allow others, an instruction may have an effect that
-- allows each effect that it has on those. The widths are needed since `freeze` gives a number of its width in place of
-- poison.
abbrev pub InstructionsAreMonotone : Type 0
InstructionsAreMonotone = (f : Function) (held held' : Registers) (width : ℕ) (op : Op) (e' : Effect)
    → OperandsHaveWidths f width op → HoldWidths f held' → HoldAllowing held held'
    → OpGives AnyNumber held' width op e'
    → (e : Effect) × OpGives AnyNumber held width op e × AllowsEffect e e'

-- so are phis: a phi may take a value that allows each value that it takes there
abbrev pub PhisAreMonotone : Type 0
PhisAreMonotone = (held held' : Registers) (from : Option ℕ) (width : ℕ) (entries : List (Operand × ℕ)) (v' : Value)
    → HoldAllowing held held'
    → PhiGives AnyNumber held' from width entries v'
    → (v : Value) × PhiGives AnyNumber held from width entries v × AllowsValue v v'
