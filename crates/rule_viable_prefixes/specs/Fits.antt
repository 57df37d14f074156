-- Viable prefixes: which tokens begin rule files, where no limit is too narrow. Nothing but the productions of the
-- grammar decides that.
use Rattle.std.specs.Prelude.{ℕ, List, [], ◌∷◌, ◌++◌}
use Rattle.rule_tokens.specs.Limits.{Limits}
use Rattle.rule_tokens.specs.Tokens.{Token, Line}
use Rattle.rule_parse.specs.declared.raw.RawRule.{RawRule}
use Rattle.rule_parse.specs.Grammar.{SpellsFile}

-- the tokens spell these rules within some limits
abbrev pub SpellsWithoutLimits : List RawRule → List Token → Type 0
SpellsWithoutLimits rules tokens = (limits : Limits) × SpellsFile limits rules tokens

-- the tokens are a viable prefix: with some more behind them they spell a rule file
abbrev pub Fits : List Token → Type 0
Fits front = (rules : List RawRule) × (more : List Token) × SpellsWithoutLimits rules (front ++ more)

-- with the token behind it the prefix is still viable
abbrev pub FitsBehind : List Token → Token → Type 0
FitsBehind front token = Fits (front ++ token ∷ [])

-- another line may begin behind the prefix
abbrev pub LineFits : List Token → Type 0
LineFits front = (number : ℕ) × FitsBehind front (Line number)

-- the line that the tokens end on, where the first of them are on this one
unfoldable pub line_behind : ℕ → List Token → ℕ
line_behind line [] = line
line_behind line (Line next ∷ tokens) = line_behind next tokens
line_behind line (token ∷ tokens) = line_behind line tokens

-- the line that the tokens of a text end on
abbrev pub line_of : List Token → ℕ
line_of tokens = line_behind 0 tokens
