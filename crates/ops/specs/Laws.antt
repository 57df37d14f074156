-- Laws of values, effects and instructions.
use Rattle.std.specs.Prelude.{ℕ, ◌≡◌, ◌≤◌, ◌-◌, ◌^◌, ◌⊎◌, ◌↔◌, Bool, ℤ, pos, neg_ℤ}
use Rattle.ops.specs.declared.value.Value.{Value}
use Rattle.ops.specs.declared.value.Value.TheVariants.{Poison, Bits}
use Rattle.ops.specs.declared.value.Effect.{Effect}
use Rattle.ops.specs.declared.value.Effect.TheVariants.{Undefined}
use Rattle.ops.specs.declared.opcode.Opcode.{Opcode}
use Rattle.ops.specs.declared.opcode.Opcode.TheVariants.{UDiv, SDiv, URem, SRem}
use Rattle.ops.specs.declared.opcode.Flags.{Flags}
use Rattle.ops.specs.declared.opcode.Unary.{Unary}
use Rattle.ops.specs.declared.comparison.Pred.{Pred}
use Rattle.ops.specs.declared.conversion.Cast.{Cast}
use Rattle.ops.specs.Value.{AllowsValue, AllowsEffect, IsValueOf, IsEffectOf}
use Rattle.ops.specs.Integer.{signed}
use Rattle.ops.specs.Instruction.{instruction}
use Rattle.ops.specs.Comparison.{comparison, selection}
use Rattle.ops.specs.Conversion.{CastFits, conversion}
use Rattle.ops.specs.Unary.{unary}

-- a value allows itself, and so does an effect
abbrev pub AllowsValueIsReflexive : Type 0
AllowsValueIsReflexive = (v : Value) → AllowsValue v v

abbrev pub AllowsEffectIsReflexive : Type 0
AllowsEffectIsReflexive = (e : Effect) → AllowsEffect e e

-- a value allows whatever the values that it allows do, and so does an effect
abbrev pub AllowsValueIsTransitive : Type 0
AllowsValueIsTransitive = (u v w : Value) → AllowsValue u v → AllowsValue v w → AllowsValue u w

abbrev pub AllowsEffectIsTransitive : Type 0
AllowsEffectIsTransitive = (d e f : Effect) → AllowsEffect d e → AllowsEffect e f → AllowsEffect d f

-- operands that allow others give an effect, or a value, that allows what those give
abbrev pub InstructionIsMonotone : Type 0
InstructionIsMonotone = (op : Opcode) (flags : Flags) (N : ℕ) (a b a' b' : Value) →
    AllowsValue a a' → AllowsValue b b' → AllowsEffect (instruction op flags N a b) (instruction op flags N a' b')

abbrev pub ComparisonIsMonotone : Type 0
ComparisonIsMonotone = (pred : Pred) (samesign : Bool) (N : ℕ) (a b a' b' : Value) →
    AllowsValue a a' → AllowsValue b b' → AllowsValue (comparison pred samesign N a b) (comparison pred samesign N a' b')

abbrev pub ConversionIsMonotone : Type 0
ConversionIsMonotone = (cast : Cast) (flags : Flags) (from to : ℕ) (a a' : Value) →
    AllowsValue a a' → AllowsValue (conversion cast flags from to a) (conversion cast flags from to a')

abbrev pub UnaryIsMonotone : Type 0
UnaryIsMonotone = (op : Unary) (truth : Bool) (N : ℕ) (a a' : Value) →
    AllowsValue a a' → AllowsValue (unary op truth N a) (unary op truth N a')

abbrev pub SelectionIsMonotone : Type 0
SelectionIsMonotone = (c a b c' a' b' : Value) →
    AllowsValue c c' → AllowsValue a a' → AllowsValue b b' → AllowsValue (selection c a b) (selection c' a' b')

-- operands of the widths that are named give an effect over iN, or a value of the result's width
abbrev pub InstructionKeepsWidth : Type 0
InstructionKeepsWidth = (op : Opcode) (flags : Flags) (N : ℕ) (a b : Value) →
    IsValueOf N a → IsValueOf N b → IsEffectOf N (instruction op flags N a b)

abbrev pub ComparisonIsOneBit : Type 0
ComparisonIsOneBit = (pred : Pred) (samesign : Bool) (N : ℕ) (a b : Value) → IsValueOf 1 (comparison pred samesign N a b)

abbrev pub ConversionHasWidth : Type 0
ConversionHasWidth = (cast : Cast) (flags : Flags) (from to : ℕ) (a : Value) →
    CastFits cast from to → IsValueOf from a → IsValueOf to (conversion cast flags from to a)

abbrev pub UnaryKeepsWidth : Type 0
UnaryKeepsWidth = (op : Unary) (truth : Bool) (N : ℕ) (a : Value) → IsValueOf N a → IsValueOf N (unary op truth N a)

abbrev pub SelectionKeepsWidth : Type 0
SelectionKeepsWidth = (N : ℕ) (c a b : Value) → IsValueOf N a → IsValueOf N b → IsValueOf N (selection c a b)

-- the instruction is a division; it is one of signed numbers
abbrev pub IsDivision : Opcode → Type 0
IsDivision UDiv = Unit {0}
IsDivision SDiv = Unit {0}
IsDivision URem = Unit {0}
IsDivision SRem = Unit {0}
IsDivision op = ⊥

abbrev pub IsSignedDivision : Opcode → Type 0
IsSignedDivision SDiv = Unit {0}
IsSignedDivision SRem = Unit {0}
IsSignedDivision op = ⊥

-- the value of iN is a number, which is z in two's complement
abbrev pub IsSigned : ℕ → Value → ℤ → Type 0
IsSigned N Poison z = ⊥
IsSigned N (Bits a) z = signed N a.number ≡ z

-- A division has undefined behaviour by poison and by 0; a signed one also by -1, where the dividend is poison or the
-- least number.
abbrev pub IsUndefinedDivision : Opcode → ℕ → Value → Value → Type 0
IsUndefinedDivision op N a b =
    IsDivision op × ((b ≡ Poison) ⊎ IsSigned N b (pos 0))
    ⊎ IsSignedDivision op × IsSigned N b (neg_ℤ (pos 1)) × ((a ≡ Poison) ⊎ IsSigned N a (neg_ℤ (pos (2 ^ (N - 1)))))

-- the effect is undefined behaviour at exactly these divisions
abbrev pub UndefinedIsOfDivisions : Type 0
UndefinedIsOfDivisions = (op : Opcode) (flags : Flags) (N : ℕ) (a b : Value) →
    1 ≤ N → IsValueOf N a → IsValueOf N b → (instruction op flags N a b ≡ Undefined) ↔ IsUndefinedDivision op N a b
