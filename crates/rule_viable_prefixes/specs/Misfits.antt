-- The kind of the fault at a token that does not fit, by which other tokens fit in its place.
use Rattle.std.specs.Prelude.{◌≡◌, ◌≢◌, ℕ, Bool, IsTrue, List, [], ◌∷◌, ◌++◌, map, Some, codes}
use Rattle.ops.specs.declared.comparison.Pred.{Pred}
use Rattle.ops.specs.declared.keywords.flag.Flag.{Flag}
use Rattle.ops.specs.declared.opcode.Unary.{Unary as Intrinsic}
use Rattle.ops.specs.FlagKeywords.{flag_keyword}
use Rattle.ops.specs.Keywords.{predicate_keyword}
use Rattle.scan.specs.RuleTokens.{is_constant}
use Rattle.rule_core.specs.declared.rule.Function.{Function}
use Rattle.rule_tokens.specs.declared.fault.RuleFaultKind.{RuleFaultKind}
use Rattle.rule_tokens.specs.declared.fault.RuleFaultKind.TheVariants.{BadByte, Syntax, LeftOut}
use Rattle.rule_tokens.specs.Numbers.{IsWrittenType}
use Rattle.rule_tokens.specs.Tokens.{Token, Line, Head, Word, Number, Bad}
use Rattle.rule_terms.specs.Keywords.{IsCalled, IsChoice}
use Rattle.rule_parse.specs.declared.word.Operation.{Operation}
use Rattle.rule_parse.specs.Keywords.{operation_word, truth_flag, truth_word}
use Rattle.rule_viable_prefixes.specs.Fits.{FitsBehind}

-- a set of tokens: those that fit in a place
abbrev pub Fitting : Type 1
Fitting = Token → Type 0

-- ---- words

-- A noun: an opcode, a predicate of `icmp`, a type, an operand or a function. Where one fits, another word is left out
-- of the language. The predicates of `Pre:` are no nouns, since a constant may stand where they do, and neither are
-- flags and `to`.
pub data IsNoun (word : List ℕ) : Type 0 where
  opcode : (operation : Operation) → word ≡ operation_word operation → IsNoun word
  predicate : (pred : Pred) → word ≡ predicate_keyword pred → IsNoun word
  type : (width : ℕ) → IsWrittenType word width → IsNoun word
  constant : IsTrue (is_constant word) → IsNoun word
  truth : (truth : Bool) → word ≡ truth_word truth → IsNoun word
  undef : word ≡ codes "undef" → IsNoun word
  choice : (place : ℕ) → IsChoice word place → IsNoun word
  function : (function : Function) → IsCalled function word → IsNoun word
  width : word ≡ codes "width" → IsNoun word

abbrev pub NounFits : Fitting → Type 0
NounFits fits = (word : List ℕ) × IsNoun word × fits (Word word)

-- ---- flags

-- a flag of instructions, or the one by which the truth value of an intrinsic is true
pub data IsFlagWord (word : List ℕ) : Type 0 where
  of_instruction : (flag : Flag) → word ≡ flag_keyword flag → IsFlagWord word
  of_intrinsic : (op : Intrinsic) → truth_flag op ≡ Some word → IsFlagWord word

abbrev pub AreFlagWords : List (List ℕ) → Type 0
AreFlagWords [] = Unit {0}
AreFlagWords (word ∷ words) = IsFlagWord word × AreFlagWords words

-- the prefix ends in flags, the first of which is this word
abbrev pub RepeatsFlag : List Token → List ℕ → Type 0
RepeatsFlag front word =
    (before : List Token) × (words : List (List ℕ)) × AreFlagWords (word ∷ words) × (front ≡ before ++ map (λ w. Word w) (word ∷ words))

-- ---- kinds

-- A word in a place where a noun fits, which is neither `hasOneUse` nor a repeated flag, is left out of the language;
-- and so is a number in the place of a version's.
pub data IsLeftOut (front : List Token) (token : Token) (left : List ℕ) : Type 0 where
  word : token ≡ Word left → NounFits (FitsBehind front) → left ≢ codes "hasOneUse" → ¬ RepeatsFlag front left → IsLeftOut front token left
  version : (line : ℕ) → token ≡ Number left → front ≡ Line line ∷ Head (codes "Version:") ∷ [] → IsLeftOut front token left

-- `BadByte` of a byte that may not stand, `LeftOut` of what is left out of the language, and `Syntax` of every other
-- token.
abbrev pub IsKindOf : List Token → Token → RuleFaultKind → Type 0
IsKindOf front token BadByte = token ≡ Bad
IsKindOf front token (LeftOut left) = IsLeftOut front token left
IsKindOf front token Syntax = (token ≢ Bad) × ((left : List ℕ) → ¬ IsLeftOut front token left)
IsKindOf front token kind = ⊥
