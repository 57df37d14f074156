-- The words and marks of terms.
use Rattle.std.specs.Prelude.{◌≡◌, ℕ, ◌-◌, ◌^◌, ◌==◌, not, ◌&&◌, min, if◌then◌else◌, IsTrue, List, [], ◌∷◌, find, Option, Some, None, codes}
use Rattle.std.specs.Str.{bytes_eq}
use Rattle.ops.specs.declared.opcode.Opcode.{Opcode}
use Rattle.ops.specs.declared.opcode.Opcode.TheVariants.{Add, Sub, Mul, UDiv, SDiv, URem, SRem, Shl, LShr, AShr, And, Or, Xor, UMin, UMax, SMin, SMax}
use Rattle.rule_core.specs.declared.rule.Function.{Function}
use Rattle.rule_core.specs.declared.rule.Function.TheVariants.{Negate, Not, Log2, Abs}
use Rattle.scan.specs.Bytes.{begins_with, are_digits}
use Rattle.scan.specs.RuleTokens.{is_constant}
use Rattle.rule_tokens.specs.Numbers.{decimal_value}
use Rattle.rule_terms.specs.declared.place.TermPlace.{TermPlace}
use Rattle.rule_terms.specs.declared.place.TermPlace.TheVariants as places
use Rattle.rule_terms.specs.declared.word.Meaning.{Meaning}
use Rattle.rule_terms.specs.declared.word.Meaning.TheVariants as meanings

-- ---- binary operators

-- how an operator is written that computes what the instruction does
abbrev pub operator_mark : Opcode → List ℕ
operator_mark Mul = codes "*"
operator_mark SDiv = codes "/"
operator_mark UDiv = codes "/u"
operator_mark SRem = codes "%"
operator_mark URem = codes "%u"
operator_mark Add = codes "+"
operator_mark Sub = codes "-"
operator_mark Shl = codes "<<"
operator_mark AShr = codes ">>"
operator_mark LShr = codes "u>>"
operator_mark And = codes "&"
operator_mark Xor = codes "^"
operator_mark Or = codes "|"
operator_mark UMin = []
operator_mark UMax = []
operator_mark SMin = []
operator_mark SMax = []

abbrev pub operators : List Opcode
operators = Mul ∷ SDiv ∷ UDiv ∷ SRem ∷ URem ∷ Add ∷ Sub ∷ Shl ∷ AShr ∷ LShr ∷ And ∷ Xor ∷ Or ∷ []

-- the operator that a mark is, as its instruction
unfoldable pub operator_in : List ℕ → Option Opcode
operator_in mark = find (λ op. bytes_eq mark (operator_mark op)) operators

-- the precedence level of an operator, 1 for the tightest; 0 for what is no operator of terms
abbrev pub level_of : Opcode → ℕ
level_of Mul = 1
level_of SDiv = 1
level_of UDiv = 1
level_of SRem = 1
level_of URem = 1
level_of Add = 2
level_of Sub = 2
level_of Shl = 3
level_of AShr = 3
level_of LShr = 3
level_of And = 4
level_of Xor = 5
level_of Or = 6
level_of UMin = 0
level_of UMax = 0
level_of SMin = 0
level_of SMax = 0

-- the level of a whole term: that of the loosest operator
abbrev pub loosest : ℕ
loosest = 6

-- ---- unary operators and functions

-- how a unary operator is written
abbrev pub IsPrefix : Function → List ℕ → Type 0
IsPrefix Negate mark = mark ≡ codes "-"
IsPrefix Not mark = mark ≡ codes "~"
IsPrefix function mark = ⊥

-- how a function is written
abbrev pub IsCalled : Function → List ℕ → Type 0
IsCalled Log2 word = word ≡ codes "log2"
IsCalled Abs word = word ≡ codes "abs"
IsCalled function word = ⊥

-- ---- words

-- a place as a rule holds it: 32 bits, saturated
abbrev pub held_place : ℕ → ℕ
held_place place = min place (2 ^ 32 - 1)

-- a choice of the target by its place: `t1` is at 0
abbrev pub IsChoice : List ℕ → ℕ → Type 0
IsChoice word place = (digits : List ℕ)
    × (word ≡ 116 ∷ digits) × IsTrue (are_digits digits) × IsTrue (not (begins_with (λ b. b == 48) digits))
    × (place ≡ held_place (decimal_value digits - 1))

-- the place of the choice of the target that a word names
unfoldable pub choice_in : List ℕ → Option ℕ
choice_in [] = None
choice_in (b ∷ digits) =
    if (b == 116) && are_digits digits && not (begins_with (λ b. b == 48) digits)
    then Some (held_place (decimal_value digits - 1)) else None

abbrev pub choice_meaning : Option ℕ → Option Meaning
choice_meaning None = None
choice_meaning (Some place) = Some (meanings.Choice place)

-- what a name means where an operand begins
unfoldable pub name_in : TermPlace → List ℕ → Option Meaning
name_in places.Constant word = if is_constant word then Some meanings.Constant else None
name_in places.Witness word = if is_constant word then Some meanings.Constant else choice_meaning (choice_in word)

-- what a word means where an operand begins
unfoldable pub meaning_in : TermPlace → List ℕ → Option Meaning
meaning_in place word =
    if bytes_eq word (codes "width") then Some meanings.Width
    else (if bytes_eq word (codes "log2") then Some (meanings.Call Log2)
    else (if bytes_eq word (codes "abs") then Some (meanings.Call Abs) else name_in place word))
