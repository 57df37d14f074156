-- The names of integer intrinsics (LLVM Language Reference, "Standard C/C++ Library Intrinsics", "Bit Manipulation
-- Intrinsics").
use Rattle.std.specs.Prelude.{◌≡◌, ℕ, ◌==◌, Bool, true, false, if◌then◌else◌, List, [], ◌∷◌, ◌++◌, take, drop, find, Option, Some, None, option_and_then, option_map, codes}
use Rattle.std.specs.List.{before_first, after_first}
use Rattle.std.specs.Str.{bytes_eq}
use Rattle.ops.specs.declared.opcode.Opcode.TheVariants.{UMin, UMax, SMin, SMax}
use Rattle.ops.specs.declared.opcode.Unary.TheVariants.{Abs, CtPop, CtLz, CtTz}
use Rattle.ops.specs.Intrinsics.{is_intrinsic}
use Rattle.ops.specs.Keywords.{opcode_keyword, unary_keyword}
use Rattle.ir_instructions.specs.declared.intrinsic.Intrinsic.{Intrinsic}
use Rattle.ir_instructions.specs.declared.intrinsic.Intrinsic.TheVariants.{Binary, Unary}
use Rattle.ir_instructions.specs.declared.word.TypeWord.{TypeWord}
use Rattle.ir_instructions.specs.declared.word.TypeWord.TheVariants as types
use Rattle.ir_instructions.specs.Keywords.{IsTypeWord, type_in}

abbrev pub intrinsic_keyword : Intrinsic → List ℕ
intrinsic_keyword (Binary op) = opcode_keyword op
intrinsic_keyword (Unary op) = unary_keyword op

abbrev pub intrinsics : List Intrinsic
intrinsics = Binary UMin ∷ Binary UMax ∷ Binary SMin ∷ Binary SMax ∷ Unary Abs ∷ Unary CtPop ∷ Unary CtLz ∷ Unary CtTz ∷ []

-- it is an intrinsic: so is every operation with one operand, and those with two that have no opcode of their own
abbrev pub is_called : Intrinsic → Bool
is_called (Binary op) = is_intrinsic op
is_called (Unary op) = true

-- the word is the type of this width, without a leading zero
abbrev pub IsPlainType : List ℕ → ℕ → Type 0
IsPlainType word width = IsTypeWord word width × (bytes_eq (take 2 word) (codes "i0") ≡ false)

-- the name is that of the intrinsic at the width, as `llvm.ctlz.i8` is that of `ctlz` at 8
abbrev pub IsIntrinsicName : List ℕ → Intrinsic × ℕ → Type 0
IsIntrinsicName name named =
    (is_called named.0 ≡ true) × (word : List ℕ) × (name ≡ codes "llvm." ++ intrinsic_keyword named.0 ++ codes "." ++ word) × IsPlainType word named.1

-- ---- the same as functions, from left to right

-- the intrinsic that a keyword spells
unfoldable pub keyword_in : List ℕ → Option Intrinsic
keyword_in word = find (λ what. bytes_eq word (intrinsic_keyword what)) intrinsics

-- the width of an integer type
abbrev pub width_of : TypeWord → Option ℕ
width_of types.Other = None
width_of types.OutOfRange = None
width_of (types.Integer width) = Some width

unfoldable pub plain_width_in : List ℕ → Option ℕ
plain_width_in word = if bytes_eq (take 2 word) (codes "i0") then None else width_of (type_in word)

-- what the part of a name behind `llvm.` spells: a keyword up to the first `.`, and a type behind that
unfoldable pub named_in : List ℕ → Option (Intrinsic × ℕ)
named_in rest =
    option_and_then
    (λ what. option_map (λ width. (what, width)) (plain_width_in (after_first (λ b. b == 46) rest)))
    (keyword_in (before_first (λ b. b == 46) rest))

-- the intrinsic and the width that a name spells
unfoldable pub intrinsic_in : List ℕ → Option (Intrinsic × ℕ)
intrinsic_in name = if bytes_eq (take 5 name) (codes "llvm.") then named_in (drop 5 name) else None
