-- The words of a module's text (LLVM Language Reference, "Instruction Reference", "Type System").
use Rattle.std.specs.Prelude.{◌≡◌, ℕ, ◌≤◌, nat_le, ◌==◌, ◌&&◌, if◌then◌else◌, IsTrue, List, [], ◌∷◌, find, Option, Some, None, codes}
use Rattle.std.specs.Str.{bytes_eq}
use Rattle.ops.specs.declared.opcode.Opcode.TheVariants.{Add, Sub, Mul, UDiv, SDiv, URem, SRem, Shl, LShr, AShr, And, Or, Xor}
use Rattle.ops.specs.declared.conversion.Cast.TheVariants.{Trunc, ZExt, SExt}
use Rattle.ops.specs.Keywords.{opcode_keyword, cast_keyword}
use Rattle.scan.specs.Bytes.{are_digits}
use Rattle.ir_tokens.specs.Numbers.{decimal_value}
use Rattle.ir_tokens.specs.declared.raw.RawValue.{RawValue}
use Rattle.ir_tokens.specs.declared.raw.RawValue.TheVariants.{True, False, Undef, Poison}
use Rattle.ir_instructions.specs.declared.word.TypeWord.{TypeWord}
use Rattle.ir_instructions.specs.declared.word.TypeWord.TheVariants as types
use Rattle.ir_instructions.specs.declared.word.Operation.{Operation}
use Rattle.ir_instructions.specs.declared.word.Operation.TheVariants.{Binary, Compare, Select, Convert, Freeze, Phi, Call, Tail, NoTail}
use Rattle.ir_instructions.specs.declared.word.Ending.{Ending}
use Rattle.ir_instructions.specs.declared.word.Ending.TheVariants.{Return, Unreachable, Branch, Switch}

-- ---- types

-- the word is `i` and digits that spell this number, which is from 1 to 64
abbrev pub IsTypeWord : List ℕ → ℕ → Type 0
IsTypeWord word width = (digits : List ℕ) × (word ≡ 105 ∷ digits) × IsTrue (are_digits digits) × (decimal_value digits ≡ width) × (1 ≤ width) × (width ≤ 64)

-- the integer type of so many bits
abbrev pub type_of_bits : ℕ → TypeWord
type_of_bits n = if nat_le 1 n && nat_le n 64 then types.Integer n else types.OutOfRange

-- the type that a word spells
unfoldable pub type_in : List ℕ → TypeWord
type_in [] = types.Other
type_in (b ∷ digits) = if (b == 105) && are_digits digits then type_of_bits (decimal_value digits) else types.Other

-- ---- opcodes

abbrev pub operation_word : Operation → List ℕ
operation_word (Binary op) = opcode_keyword op
operation_word Compare = codes "icmp"
operation_word Select = codes "select"
operation_word (Convert cast) = cast_keyword cast
operation_word Freeze = codes "freeze"
operation_word Phi = codes "phi"
operation_word Call = codes "call"
operation_word Tail = codes "tail"
operation_word NoTail = codes "notail"

abbrev pub operations : List Operation
operations =
    Binary Add ∷ Binary Sub ∷ Binary Mul ∷ Binary UDiv ∷ Binary SDiv ∷ Binary URem ∷ Binary SRem ∷ Binary Shl ∷ Binary LShr ∷ Binary AShr
    ∷ Binary And ∷ Binary Or ∷ Binary Xor ∷ Compare ∷ Select ∷ Convert Trunc ∷ Convert ZExt ∷ Convert SExt ∷ Freeze ∷ Phi
    ∷ Call ∷ Tail ∷ NoTail ∷ []

-- the operation that begins with a word
unfoldable pub operation_in : List ℕ → Option Operation
operation_in word = find (λ operation. bytes_eq word (operation_word operation)) operations

-- ---- values and terminators

-- the truth value that a word spells, as a case of a `switch` has one; and the value that a word spells
unfoldable pub truth_in : List ℕ → Option RawValue
truth_in word = if bytes_eq word (codes "true") then Some True else (if bytes_eq word (codes "false") then Some False else None)

unfoldable pub value_in : List ℕ → Option RawValue
value_in word =
    if bytes_eq word (codes "undef") then Some Undef else (if bytes_eq word (codes "poison") then Some Poison else truth_in word)

abbrev pub ending_word : Ending → List ℕ
ending_word Return = codes "ret"
ending_word Unreachable = codes "unreachable"
ending_word Branch = codes "br"
ending_word Switch = codes "switch"

-- the terminator that begins with a word
unfoldable pub ending_in : List ℕ → Option Ending
ending_in word = find (λ ending. bytes_eq word (ending_word ending)) (Return ∷ Unreachable ∷ Branch ∷ Switch ∷ [])
