-- The parser of formulas, as functions over tokens. Nodes are appended to those that were read before.
use Rattle.std.specs.Prelude.{ℕ, zero, suc, Bool, true, false, ◌&&◌, if◌then◌else◌, List, [], ◌∷◌, ◌++◌, length, drop, Option, Some, None, Result, Ok, Err, codes}
use Rattle.std.specs.List.{list_any}
use Rattle.std.specs.Str.{bytes_eq}
use Rattle.scan.specs.RuleTokens.{is_among}
use Rattle.ops.specs.declared.comparison.Pred.{Pred}
use Rattle.rule_tokens.specs.declared.fault.RuleFaultKind.TheVariants.{Syntax, TooMany}
use Rattle.rule_tokens.specs.RuleFaults.{RuleFault}
use Rattle.rule_tokens.specs.Steps.{◌>>=◌}
use Rattle.rule_tokens.specs.PartReaders.{Read, fault, unexpected, name_within, line_end}
use Rattle.rule_tokens.specs.declared.fact.BitFact.{BitFact}
use Rattle.rule_tokens.specs.declared.fact.BitFact.TheVariants as facts
use Rattle.rule_tokens.specs.Tokens.{Token, Line, Register, Word, Fact, Mark}
use Rattle.rule_terms.specs.declared.raw.RawFormula.{RawFormula}
use Rattle.rule_terms.specs.declared.raw.RawFormula.TheVariants.{Compare, HasOneUse, MaskedValueIsZero, IsKnownNonZero, Not, And, Or}
use Rattle.rule_terms.specs.declared.formula_word.Opening.{Opening}
use Rattle.rule_terms.specs.declared.formula_word.Opening.TheVariants.{Turns, Encloses, Tests, Compares}
use Rattle.rule_terms.specs.declared.formula_word.Predicate.{Predicate}
use Rattle.rule_terms.specs.declared.formula_word.Sign.{Sign}
use Rattle.rule_terms.specs.declared.formula_word.Sign.TheVariants as signs
use Rattle.rule_terms.specs.declared.place.TermPlace.TheVariants.{Constant}
use Rattle.rule_terms.specs.Chains.{Reader, chain_at}
use Rattle.rule_terms.specs.Grammar.{last_place}
use Rattle.rule_terms.specs.TermReaders.{mark_at, term_at}
use Rattle.rule_terms.specs.FormulaKeywords.{comparison_in, predicate_in, predicate_node, formula_marks, formula_words}
use Rattle.rule_tokens.specs.Limits.{Limits}

-- ---- looking ahead: what a member begins with

-- whether a token opens or closes a parenthesis, ends the line, or stands in formulas and not in terms
abbrev pub mark_sign : List ℕ → Sign
mark_sign mark =
    if bytes_eq mark (codes "(") then signs.Opens
    else (if bytes_eq mark (codes ")") then signs.Closes
    else (if is_among formula_marks mark then signs.InFormula else signs.Plain))

abbrev pub word_sign : List ℕ → Sign
word_sign word = if is_among formula_words word then signs.InFormula else signs.Plain

abbrev pub sign_of : Token → Sign
sign_of (Line number) = signs.LineEnds
sign_of (Mark mark) = mark_sign mark
sign_of (Word word) = word_sign word
sign_of (Fact fact) = signs.InFormula
sign_of token = signs.Plain

-- Whether the open `(` encloses a formula and not a term: a token that stands in formulas alone comes before its `)`
-- and before the end of the line. `depth` is how many more are open inside.
abbrev pub opens_behind : Sign → ℕ → (ℕ → Bool) → Bool
opens_behind signs.Opens depth rest = rest (suc depth)
opens_behind signs.Closes zero rest = false
opens_behind signs.Closes (suc depth) rest = rest depth
opens_behind signs.LineEnds depth rest = false
opens_behind signs.InFormula depth rest = true
opens_behind signs.Plain depth rest = rest depth

unfoldable pub opens_formula : ℕ → List Token → Bool
opens_formula depth [] = false
opens_formula depth (token ∷ tokens) = opens_behind (sign_of token) depth (λ more. opens_formula more tokens)

-- what a member of a formula begins with
abbrev pub mark_opening : List ℕ → List Token → Opening
mark_opening mark rest =
    if bytes_eq mark (codes "!") then Turns
    else (if bytes_eq mark (codes "(") && opens_formula 0 rest then Encloses else Compares)

abbrev pub word_opening : Option Predicate → Opening
word_opening (Some predicate) = Tests predicate
word_opening None = Compares

unfoldable pub opening_at : List Token → Opening
opening_at (Mark mark ∷ rest) = mark_opening mark rest
opening_at (Word word ∷ rest) = word_opening (predicate_in word)
opening_at tokens = Compares

-- ---- members

-- the comparison that a mark is, or the fault that it is none
abbrev pub comparison_or_fault : ℕ → Option Pred → List Token → Read Pred
comparison_or_fault line (Some pred) rest = Ok (pred, rest)
comparison_or_fault line None rest = Err (fault line Syntax)

unfoldable pub comparison_at : ℕ → List Token → Read Pred
comparison_at line (Mark mark ∷ rest) = comparison_or_fault line (comparison_in mark) rest
comparison_at line tokens = Err (unexpected line tokens)

-- two terms with a comparison between them
unfoldable pub compares_at : Limits → ℕ → ℕ → Reader (List RawFormula)
compares_at limits nesting line before tokens = do
  left ← term_at limits Constant nesting line tokens
  pred ← comparison_at line left.1
  right ← term_at limits Constant nesting line pred.1
  Ok (before ++ Compare pred.0 left.0 right.0 ∷ [], right.1)

-- one level of nesting less is left; none is a fault
abbrev pub deeper : ℕ → ℕ → Result ℕ RuleFault
deeper line zero = Err (fault line TooMany)
deeper line (suc nesting) = Ok nesting

-- behind a predicate's word: a term in parentheses
unfoldable pub tests_at : Limits → Predicate → ℕ → ℕ → Reader (List RawFormula)
tests_at limits predicate nesting line before tokens = do
  opened ← mark_at (codes "(") line tokens
  inside ← deeper line nesting
  term ← term_at limits Constant inside line opened
  rest ← mark_at (codes ")") line term.1
  Ok (before ++ predicate_node predicate term.0 ∷ [], rest)

-- behind `hasOneUse`: a register in parentheses
abbrev pub register_at : Limits → ℕ → List Token → Read (List ℕ)
register_at limits line (Register name ∷ rest) = name_within limits line name >>= λ held. Ok (held, rest)
register_at limits line tokens = Err (unexpected line tokens)

unfoldable pub one_use_at : Limits → ℕ → Reader (List RawFormula)
one_use_at limits line before tokens = do
  opened ← mark_at (codes "(") line tokens
  register ← register_at limits line opened
  rest ← mark_at (codes ")") line register.1
  Ok (before ++ HasOneUse register.0 ∷ [], rest)

-- a register and a term in parentheses, behind `MaskedValueIsZero`
unfoldable pub masked_at : Limits → ℕ → ℕ → Reader (List RawFormula)
masked_at limits nesting line before tokens = do
  opened ← mark_at (codes "(") line tokens
  inside ← deeper line nesting
  register ← register_at limits line opened
  behind ← mark_at (codes ",") line register.1
  term ← term_at limits Constant inside line behind
  rest ← mark_at (codes ")") line term.1
  Ok (before ++ MaskedValueIsZero register.0 term.0 ∷ [], rest)

-- a register in parentheses, behind `isKnownNonZero`
unfoldable pub non_zero_at : Limits → ℕ → Reader (List RawFormula)
non_zero_at limits line before tokens = do
  opened ← mark_at (codes "(") line tokens
  register ← register_at limits line opened
  rest ← mark_at (codes ")") line register.1
  Ok (before ++ IsKnownNonZero register.0 ∷ [], rest)

abbrev pub fact_at : Limits → BitFact → ℕ → Reader (List RawFormula)
fact_at limits facts.MaskedValueIsZero line before tokens = masked_at limits limits.nested line before tokens
fact_at limits facts.IsKnownNonZero line before tokens = non_zero_at limits line before tokens

-- ---- formulas

-- the part is read, and its node joined by the operator with what was read before
abbrev pub joins : (ℕ → ℕ → RawFormula) → Reader (List RawFormula) → Reader (List RawFormula)
joins operator part before tokens = part before tokens >>= λ x. Ok (x.0 ++ operator (last_place (length before)) (last_place (length x.0)) ∷ [], x.1)

-- `&& member`, any number of times; and a whole conjunction
abbrev pub more_members : Reader (List RawFormula) → Reader (List RawFormula)
more_members member before tokens = chain_at (codes "&&") (joins And member) before tokens

abbrev pub members_of : Reader (List RawFormula) → Reader (List RawFormula)
members_of member before tokens = member before tokens >>= λ first. more_members member first.0 first.1

-- `|| conjunction`, any number of times; and a whole disjunction
abbrev pub more_alternatives : Reader (List RawFormula) → Reader (List RawFormula)
more_alternatives member before tokens = chain_at (codes "||") (joins Or (members_of member)) before tokens

abbrev pub alternatives_of : Reader (List RawFormula) → Reader (List RawFormula)
alternatives_of member before tokens = members_of member before tokens >>= λ first. more_alternatives member first.0 first.1

-- behind `!`: what is negated; and behind `(`: a formula and `)`
abbrev pub turns_at : Reader (List RawFormula) → Reader (List RawFormula)
turns_at inside before tokens = inside before tokens >>= λ x. Ok (x.0 ++ Not (last_place (length x.0)) ∷ [], x.1)

abbrev pub encloses_at : ℕ → Reader (List RawFormula) → Reader (List RawFormula)
encloses_at line inside before tokens = do
  formula ← alternatives_of inside before tokens
  rest ← mark_at (codes ")") line formula.1
  Ok (formula.0, rest)

-- a member that begins so; `inside` reads a member one level of nesting further in
abbrev pub begun_at : Limits → Opening → ℕ → ℕ → Reader (List RawFormula) → Reader (List RawFormula)
begun_at limits Turns nesting line inside before tokens = turns_at inside before (drop 1 tokens)
begun_at limits Encloses nesting line inside before tokens = encloses_at line inside before (drop 1 tokens)
begun_at limits (Tests predicate) nesting line inside before tokens = tests_at limits predicate nesting line before (drop 1 tokens)
begun_at limits Compares nesting line inside before tokens = compares_at limits nesting line before tokens

-- where no level of nesting is left
abbrev pub too_deep : ℕ → Reader (List RawFormula)
too_deep line before tokens = Err (fault line TooMany)

-- a member, with `nesting` levels of nesting left
unfoldable pub member_at : Limits → ℕ → ℕ → Reader (List RawFormula)
member_at limits zero line before tokens = begun_at limits (opening_at tokens) zero line (too_deep line) before tokens
member_at limits (suc nesting) line before tokens = begun_at limits (opening_at tokens) (suc nesting) line (member_at limits nesting line) before tokens

-- a member of the outermost `&&`, where `hasOneUse` may stand
unfoldable pub outer_member_at : Limits → ℕ → Reader (List RawFormula)
outer_member_at limits line before (Word word ∷ rest) = if bytes_eq word (codes "hasOneUse") then one_use_at limits line before rest else member_at limits limits.nested line before (Word word ∷ rest)
outer_member_at limits line before (Fact fact ∷ rest) = fact_at limits fact line before rest
outer_member_at limits line before tokens = member_at limits limits.nested line before tokens

-- the node may stand as a member of the outermost `&&` alone
abbrev pub is_outer : RawFormula → Bool
is_outer (HasOneUse name) = true
is_outer (MaskedValueIsZero name term) = true
is_outer (IsKnownNonZero name) = true
is_outer node = false

-- `||` may only go on with what has none of these in it
abbrev pub or_alternatives : Limits → ℕ → Bool → Reader (List RawFormula)
or_alternatives limits line true before tokens = Ok (before, tokens)
or_alternatives limits line false before tokens = more_alternatives (member_at limits limits.nested line) before tokens

-- the formula of a precondition, behind `Pre:`, and the end of its line
unfoldable pub formula_at : Limits → ℕ → List Token → Read (List RawFormula)
formula_at limits line tokens = do
  first ← members_of (outer_member_at limits line) [] tokens
  whole ← or_alternatives limits line (list_any is_outer first.0) first.0 first.1
  rest ← line_end line whole.1
  Ok (whole.0, rest)
