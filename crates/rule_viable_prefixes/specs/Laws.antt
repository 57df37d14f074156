-- Where rule files are refused, and by which kind.
use Rattle.std.specs.Prelude.{◌≡◌, ◌↔◌, ◌⊎◌, ℕ, ◌≤◌, List, ◌∷◌, ◌++◌}
use Rattle.rule_tokens.specs.declared.fault.RuleFaultKind.{RuleFaultKind}
use Rattle.rule_tokens.specs.declared.fault.RuleFaultKind.TheVariants.{Syntax, TooMany}
use Rattle.rule_tokens.specs.Limits.{Limits}
use Rattle.rule_tokens.specs.RuleFaults.{RuleFault}
use Rattle.rule_tokens.specs.Tokens.{Token, AreTokens}
use Rattle.rule_parse.specs.declared.raw.RawRule.{RawRule}
use Rattle.rule_parse.specs.Grammar.{SpellsFile}
use Rattle.rule_parse.specs.NodeCounts.{IsWithinLimit}
use Rattle.rule_parse.specs.Text.{IsFaultWithin}
use Rattle.rule_viable_prefixes.specs.Fits.{SpellsWithoutLimits, Fits, FitsBehind, LineFits, line_of}
use Rattle.rule_viable_prefixes.specs.Misfits.{IsKindOf}
use Rattle.rule_viable_prefixes.specs.Passed.{StaysWithin, AllStayWithin}

-- the token fits behind the prefix, but with it a limit is passed; that is told as `TooMany`
pub record IsOneTooMany (limits : Limits) (front : List Token) (token : Token) (kind : RuleFaultKind) : Type 0 where
  pub fits : FitsBehind front token
  pub passed : ¬ StaysWithin limits front token
  pub told : kind ≡ TooMany

-- the token does not fit behind the prefix, and is told by its own kind
pub record DoesNotFit (front : List Token) (token : Token) (kind : RuleFaultKind) : Type 0 where
  pub misfit : ¬ FitsBehind front token
  pub told : IsKindOf front token kind

-- The fault is that of the first token that does not fit or with which a limit is passed, and is on the line that the
-- tokens before it end on. Where that token is the number of another line, this is the line that ended too soon.
pub record IsAtToken (limits : Limits) (tokens : List Token) (found : RuleFault) : Type 0 where
  pub front : List Token
  pub token : Token
  pub behind : List Token
  pub stands : tokens ≡ front ++ token ∷ behind
  pub fits : Fits front
  pub within : AllStayWithin limits front
  pub line : found.line ≡ line_of front
  pub kind : IsOneTooMany limits front token found.kind ⊎ DoesNotFit front token found.kind

-- The tokens are a viable prefix, but spell no rules. The fault is on the text's last line where another line may
-- begin, and otherwise on the last line that has tokens, which ended too soon.
pub record IsAtEnd (limits : Limits) (tokens : List Token) (last : ℕ) (found : RuleFault) : Type 0 where
  pub fits : Fits tokens
  pub within : AllStayWithin limits tokens
  pub no_rules : (rules : List RawRule) → ¬ SpellsWithoutLimits rules tokens
  pub kind : found.kind ≡ Syntax
  pub line : (LineFits tokens × (found.line ≡ last)) ⊎ ((¬ LineFits tokens) × (found.line ≡ line_of tokens))

-- Within any limits that leave a level of nesting the fault of a text is exactly that of its first token that does not
-- fit or with which a limit is passed, or of its end. One whose tokens spell rules, of which none has more than 256
-- operands, literals, names, operators and functions, is not refused.
pub record RefusalsAreExact : Type 0 where
  pub refused : (limits : Limits) → 1 ≤ limits.nested → (text : List ℕ) (tokens : List Token) (last : ℕ) (found : RuleFault)
      → AreTokens text tokens last → IsFaultWithin limits text found ↔ (IsAtToken limits tokens found ⊎ IsAtEnd limits tokens last found)
  pub read : (limits : Limits) (text : List ℕ) (tokens : List Token) (last : ℕ) (rules : List RawRule) (found : RuleFault)
      → AreTokens text tokens last → SpellsFile limits rules tokens → IsWithinLimit tokens → ¬ IsFaultWithin limits text found
