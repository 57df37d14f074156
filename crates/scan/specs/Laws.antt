-- Every text has at most one token, or one fault, at each place.
use Rattle.std.specs.Prelude.{◌≡◌, ℕ, ◌≤◌, Bool, List, length, Result, Ok, Err}
use Rattle.scan.specs.declared.rule_token.RuleToken.{RuleToken}
use Rattle.scan.specs.declared.bad_byte.BadByte.{BadByte}
use Rattle.scan.specs.declared.ir.token.Token.{Token}
use Rattle.scan.specs.declared.span.Span.{Span}
use Rattle.scan.specs.IrTokens.{IsNextToken, IsBadToken}
use Rattle.scan.specs.Kept.{IsGroup}
use Rattle.scan.specs.RuleTokens.{IsNextRuleToken, IsBadNext}

-- the next thing from the place on, behind a gap: a token, or an invalid byte
abbrev pub IsNext : Bool → List ℕ → ℕ → Result RuleToken BadByte → Type 0
IsNext operator text place (Ok t) = IsNextRuleToken operator text place t
IsNext operator text place (Err e) = IsBadNext text place e.line

-- there is at most one
abbrev pub OneTokenAtAPlace : Type 0
OneTokenAtAPlace = (operator : Bool) (text : List ℕ) (place : ℕ) (a b : Result RuleToken BadByte) → place ≤ length text → IsNext operator text place a → IsNext operator text place b → a ≡ b

-- the next thing from the place of a module on, behind a gap: a token, or an invalid byte or token
abbrev pub IsNextOfModule : List ℕ → ℕ → Result Token BadByte → Type 0
IsNextOfModule text place (Ok t) = IsNextToken text place t
IsNextOfModule text place (Err e) = IsBadToken text place e.line

-- there is at most one
abbrev pub OneModuleTokenAtAPlace : Type 0
OneModuleTokenAtAPlace = (text : List ℕ) (place : ℕ) (a b : Result Token BadByte) → place ≤ length text → IsNextOfModule text place a → IsNextOfModule text place b → a ≡ b

-- there is at most one place where a bracket before a place is closed
abbrev pub OneGroupAtAPlace : Type 0
OneGroupAtAPlace = (text : List ℕ) (place : ℕ) (a b : Span) → place ≤ length text → IsGroup text place a → IsGroup text place b → a ≡ b
