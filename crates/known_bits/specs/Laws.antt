-- That what is known of bits is so in every run.
use Rattle.std.specs.Prelude.{◌≡◌, ℕ, ◌^◌, ◌<◌, Bool, true, false, List, ◌∷◌, length, Some, slice_get, bit_and}
use Rattle.std.specs.List.{AllZip}
use Rattle.ops.specs.Counts.{binary_digits}
use Rattle.ops.specs.Number.{Number}
use Rattle.ops.specs.Value.{IsValueOf}
use Rattle.ops.specs.declared.value.Value.{Value}
use Rattle.ops.specs.declared.value.Value.TheVariants.{Poison, Bits}
use Rattle.ops.specs.declared.value.Effect.TheVariants as effects
use Rattle.circuits.specs.declared.known_bit.KnownBit.{KnownBit}
use Rattle.circuits.specs.declared.known_bit.KnownBit.TheVariants.{Zero, One, Unknown}
use Rattle.ir_core.specs.declared.function.Function.{Function}
use Rattle.ir_core.specs.declared.instruction.Op.{Op}
use Rattle.ir_core.specs.declared.operand.Operand.{Operand}
use Rattle.ir_core.specs.Checks.{MeetsChecks, OperandHasWidth, IsTyped}
use Rattle.ir_core.specs.Reads.{Read, reads_of}
use Rattle.ir_core.specs.Refines.{AreArguments}
use Rattle.ir_core.specs.Run.{Registers, AnyNumber, OperandGives, OpGives}
use Rattle.ir_meaning.specs.Histories.{Moment, IsHistory}
use Rattle.ir_meaning.specs.HistoryLaws.{NumbersFit}
use Rattle.known_bits.specs.Words.{known_of}
use Rattle.known_bits.specs.KnownBits.{known_result, known_at}

-- the bit may have the value
abbrev pub Allows : KnownBit → Bool → Type 0
Allows Zero b = b ≡ false
Allows One b = b ≡ true
Allows Unknown b = Unit {0}

-- the value is poison, or a number of as many bits, each of which may have its value
abbrev pub HasBits : List KnownBit → Value → Type 0
HasBits x Poison = Unit {0}
HasBits x (Bits n) = AllZip Allows x (binary_digits n.width n.number)

-- Whenever a run comes to a place, an operand there gives poison, or a number with the bits that are known of it at
-- that place.
abbrev pub OperandsHaveKnownBits : Type 0
OperandsHaveKnownBits = (f : Function) (args : List Value) (m : Moment) (before : List Moment)
    → MeetsChecks f → NumbersFit f → AreArguments f.parameters args → IsHistory f args (m ∷ before)
    → (width : ℕ) (x : Operand) (v : Value) → OperandHasWidth f width x → OperandGives AnyNumber m.held width x v
    → HasBits (known_at f m.block m.place width x) v

-- as many bits are known of an operand as it has, and it gives values of its width that have them
abbrev pub GivesBits : (ℕ → Operand → List KnownBit) → Registers → ℕ → Operand → Type 0
GivesBits known held N x =
    (length (known N x) ≡ N) × ((v : Value) → OperandGives AnyNumber held N x v → IsValueOf N v × HasBits (known N x) v)

-- What an instruction gives on operands with the bits that are known of them has those that are known of its result,
-- whatever flags it has: with more flags it gives the same, or poison.
abbrev pub ResultsHaveKnownBits : Type 0
ResultsHaveKnownBits = (known : ℕ → Operand → List KnownBit) (f : Function) (b k : ℕ)
    (held : Registers) (width : ℕ) (op : Op) (v : Value)
    → IsTyped width op
    → ((i : ℕ) (r : Read) → slice_get (reads_of f b k width op) i ≡ Some r → GivesBits known held r.width r.operand)
    → OpGives AnyNumber held width op (effects.Gives v) → IsValueOf width v
    → HasBits (known_result known width op) v

-- a number that has the bits that are known has no 1 where it is known to be 0, and each that is known to be 1
abbrev pub NumbersHaveKnownBits : Type 0
NumbersHaveKnownBits = (x : List KnownBit) (n : Number) → n.number < 2 ^ n.width → HasBits x (Bits n)
    → (bit_and n.number (known_of x).zeros ≡ 0) × (bit_and n.number (known_of x).ones ≡ (known_of x).ones)
