-- Why a token does not fit behind a viable prefix, in terms of the other tokens that fit there.
use Rattle.std.specs.Prelude.{◌≡◌, ◌↔◌, ◌⊎◌, ℕ, false, true, List, [], ◌∷◌, ◌++◌, None, IsSome}
use Rattle.ops.specs.declared.comparison.Pred.{Pred}
use Rattle.ir_tokens.specs.Numbers.{constant_of}
use Rattle.ir_tokens.specs.Tokens.{Token, Placed, End, Bad, Word, Number, Function, is_last}
use Rattle.ir_tokens.specs.declared.raw.RawValue.{RawValue}
use Rattle.ir_tokens.specs.declared.fault.IrFaultKind.{IrFaultKind}
use Rattle.ir_tokens.specs.declared.fault.IrFaultKind.TheVariants.{BadByte, Syntax, LeftOut, Width, ConstRange}
use Rattle.ir_instructions.specs.declared.word.Ending.{Ending}
use Rattle.ops.specs.declared.keywords.flag.Flag.{Flag}
use Rattle.ir_instructions.specs.declared.word.Operation.{Operation}
use Rattle.ir_instructions.specs.declared.word.TypeWord.TheVariants.{OutOfRange}
use Rattle.ir_instructions.specs.Grammar.{IsValueToken}
use Rattle.ir_instructions.specs.Parts.{Is, Each}
use Rattle.ir_instructions.specs.Places.{begins_record, begins_type, shown}
use Rattle.ir_instructions.specs.Keywords.{IsTypeWord, ending_word, operation_word, type_in}
use Rattle.ops.specs.Keywords.{predicate_keyword}
use Rattle.ops.specs.FlagKeywords.{flag_keyword}
use Rattle.ir_viable_prefixes.specs.Calls.{NamesIntrinsic}
use Rattle.ir_viable_prefixes.specs.Fits.{FitsBehind, AttributesFit}

-- a noun: a word that is a type, an opcode, a predicate, a flag, a value, or the first word of a terminator
pub data IsNoun (word : List ℕ) : Type 0 where
  type : (width : ℕ) → IsTypeWord word width → IsNoun word
  opcode : (operation : Operation) → word ≡ operation_word operation → IsNoun word
  predicate : (pred : Pred) → word ≡ predicate_keyword pred → IsNoun word
  flag : (flag : Flag) → word ≡ flag_keyword flag → IsNoun word
  value : (width : ℕ) (value : RawValue) → IsValueToken width value (Word word) → IsNoun word
  terminator : (ending : Ending) → word ≡ ending_word ending → IsNoun word

abbrev pub NounFits : List Placed → Type 0
NounFits front = (word : List ℕ) × IsNoun word × FitsBehind front (Word word)

abbrev pub TypeFits : List Placed → Type 0
TypeFits front = (word : List ℕ) × (width : ℕ) × IsTypeWord word width × FitsBehind front (Word word)

abbrev pub PredicateFits : List Placed → Type 0
PredicateFits front = (pred : Pred) × FitsBehind front (Word (predicate_keyword pred))

abbrev pub TerminatorFits : List Placed → Type 0
TerminatorFits front = (ending : Ending) × FitsBehind front (Word (ending_word ending))

-- Another token of the same sort fits: a noun in place of a word, a type in place of a mark that begins a type, or, in
-- place of a function, one that is no intrinsic.
pub data AnotherFits (front : List Placed) : Token → Type 0 where
  of_word : (word : List ℕ) → NounFits front → AnotherFits front (Word word)
  of_mark : (token : Token) → begins_type token ≡ true → TypeFits front → AnotherFits front token
  of_function : (written other : List ℕ) → ¬ NamesIntrinsic other → FitsBehind front (Function other) → AnotherFits front (Function written)

-- A token is taken for an unsupported part of LLVM IR (left out): where another of its sort fits; if it is the `#` of a
-- debug record, where a terminator fits and no group of attributes does, as it would among items; and where the text
-- may end, since an entry may begin there.
pub data IsLeftOut (front : List Placed) (token : Token) : Type 0 where
  another : AnotherFits front token → IsLeftOut front token
  mark_of_record : begins_record token ≡ true → TerminatorFits front → ¬ AttributesFit front → IsLeftOut front token
  entry : is_last token ≡ false → FitsBehind front End → IsLeftOut front token

-- The last tokens are keywords of flags, of which the first is this word.
abbrev pub RepeatsFlag : List Placed → List ℕ → Type 0
RepeatsFlag front word =
    (before behind : List Placed) × (flag : Flag) × (flags : List Flag) × (front ≡ before ++ behind) × (word ≡ flag_keyword flag)
    × Each (λ f. Is (Word (flag_keyword f))) (flag ∷ flags) behind []

-- A word repeats a flag of an instruction: it is one of the flags directly before it, and a type or a predicate fits,
-- as behind flags. (Behind a call words of flags may stand as items, but there neither fits.)
abbrev pub IsRepeated : List Placed → Token → Type 0
IsRepeated front token = (word : List ℕ) × (token ≡ Word word) × RepeatsFlag front word × (TypeFits front ⊎ PredicateFits front)

-- The token is a syntax error and nothing else: it is no bad byte; no other token of its sort fits, unless it repeats a
-- flag; if it is the `#` of a debug record, a terminator fits only where a group of attributes does; no number fits in
-- place of a number, and no function in place of a function; and the text may not end there, unless nothing is read
-- behind the token.
pub record IsNothingElse (front : List Placed) (token : Token) : Type 0 where
  pub no_bad_byte : ¬ (token ≡ Bad)
  pub another : AnotherFits front token → IsRepeated front token
  pub mark_of_record : begins_record token ≡ true → TerminatorFits front → AttributesFit front
  pub number : (digits other : List ℕ) → token ≡ Number digits → ¬ FitsBehind front (Number other)
  pub function : (written other : List ℕ) → token ≡ Function written → ¬ FitsBehind front (Function other)
  pub entry : is_last token ≡ false → ¬ FitsBehind front End

-- The word is `i` and digits but no type, where a type fits.
abbrev pub IsWrongWidth : List Placed → Token → Type 0
IsWrongWidth front token = (word : List ℕ) × (token ≡ Word word) × (type_in word ≡ OutOfRange) × TypeFits front

-- The number is out of the range of a width, where exactly the numbers in that range fit.
abbrev pub IsWrongNumber : List Placed → Token → Type 0
IsWrongNumber front token =
    (digits : List ℕ) × (width : ℕ) × (token ≡ Number digits) × (constant_of digits width ≡ None)
    × ((other : List ℕ) → FitsBehind front (Number other) ↔ IsSome (constant_of other width))

-- The token, which does not fit behind the others, is a fault of this kind; no other kinds are told of tokens. A word
-- that repeats a flag is a syntax error, and is not left out.
abbrev pub IsMisfit : List Placed → Token → IrFaultKind → Type 0
IsMisfit front token BadByte = token ≡ Bad
IsMisfit front token Width = IsWrongWidth front token
IsMisfit front token ConstRange = IsWrongNumber front token
IsMisfit front token (LeftOut text) = (text ≡ shown token) × IsLeftOut front token × ¬ IsWrongWidth front token × ¬ IsRepeated front token
IsMisfit front token Syntax = IsNothingElse front token
IsMisfit front token kind = ⊥
