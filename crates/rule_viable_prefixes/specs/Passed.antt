-- How much of each limit is used once a token is read, counted over the tokens alone.
use Rattle.std.specs.Prelude.{◌≡◌, ℕ, ◌+◌, ◌≤◌, Bool, true, false, not, ◌&&◌, if◌then◌else◌, List, [], ◌∷◌, ◌++◌, length, codes}
use Rattle.std.specs.Str.{bytes_eq}
use Rattle.scan.specs.declared.rule_token.RuleKind.TheVariants as kinds
use Rattle.scan.specs.RuleTokens.{ends_primary, is_among}
use Rattle.rule_tokens.specs.Limits.{Limits, AreWithin}
use Rattle.rule_tokens.specs.Tokens.{Token, Line, Head, Name, Register, Word, Number, Arrow, Mark}
use Rattle.rule_parse.specs.Limits.{most_nodes}
use Rattle.rule_parse.specs.NodeCounts.{counted_at_end}

-- ---- bytes of a name

-- the bytes of the name that the token is: a rule's, a register's, a constant's or that of a choice of the target; 0
-- for other tokens
abbrev pub name_bytes : Token → ℕ
name_bytes (Name text) = length text
name_bytes (Register name) = length name
name_bytes (Word word) = if ends_primary kinds.Word word then length word else 0
name_bytes token = 0

-- ---- statements of a half

-- how many lines begin with a register since the last head or `=>`; `before` is how many did before these tokens
abbrev pub statements_behind : ℕ → List Token → ℕ
statements_behind before [] = before
statements_behind before (Head text ∷ tokens) = statements_behind 0 tokens
statements_behind before (Arrow ∷ tokens) = statements_behind 0 tokens
statements_behind before (Line number ∷ Register name ∷ tokens) = statements_behind (before + 1) tokens
statements_behind before (token ∷ tokens) = statements_behind before tokens

-- ---- levels of nesting

-- what a token does to the stack of what is open
pub data Role : Type 0 where
  -- `(`, and `)`
  Opens : Role
  Closes : Role
  -- `-` or `~` before an operand, and `!`
  Sign : Role
  Negates : Role
  -- `&&` or `||`
  Joins : Role
  -- an operand of one token
  Operand : Role
  Other : Role

abbrev pub mark_role : Bool → List ℕ → Role
mark_role behind_operand mark =
    if bytes_eq mark (codes "(") then Opens
    else (if bytes_eq mark (codes ")") then Closes
    else (if bytes_eq mark (codes "!") then Negates
    else (if is_among (codes "&&" ∷ codes "||" ∷ []) mark then Joins
    else (if not behind_operand && is_among (codes "-" ∷ codes "~" ∷ []) mark then Sign else Other))))

-- a `-` or `~` is unary where it isn't behind an operand
abbrev pub role_of : Bool → Token → Role
role_of behind_operand (Register name) = Operand
role_of behind_operand (Number text) = Operand
role_of behind_operand (Word word) = if ends_primary kinds.Word word then Operand else Other
role_of behind_operand (Mark mark) = mark_role behind_operand mark
role_of behind_operand token = Other

-- a token with this role ends an operand
abbrev pub ends_operand : Role → Bool
ends_operand Operand = true
ends_operand Closes = true
ends_operand role = false

-- the stack without the unary operators on top: these are pending up to the end of their operand
abbrev pub without_signs : List Role → List Role
without_signs (Sign ∷ pending) = without_signs pending
without_signs pending = pending

-- the stack without the `!`s on top: a `!` is pending up to the next `&&`, `||` or `)`
abbrev pub without_negations : List Role → List Role
without_negations (Negates ∷ pending) = without_negations pending
without_negations pending = pending

-- the stack without all that is above the innermost `(`, and without that: a `)` closes it
abbrev pub closed : List Role → List Role
closed [] = []
closed (Opens ∷ pending) = pending
closed (role ∷ pending) = closed pending

-- the stack behind a token with this role; the innermost is on top
abbrev pub open_with : Role → List Role → List Role
open_with Opens pending = Opens ∷ pending
open_with Closes pending = without_signs (closed pending)
open_with Sign pending = Sign ∷ pending
open_with Negates pending = Negates ∷ pending
open_with Joins pending = without_negations pending
open_with Operand pending = without_signs pending
open_with Other pending = pending

-- the stack behind tokens, with this one before them; a line begins with an empty one
abbrev pub open_behind : Bool → List Role → List Token → List Role
open_behind behind_operand pending [] = pending
open_behind behind_operand pending (Line number ∷ tokens) = open_behind false [] tokens
open_behind behind_operand pending (token ∷ tokens) = open_behind (ends_operand (role_of behind_operand token)) (open_with (role_of behind_operand token) pending) tokens

-- ---- what is used

-- how much is used of the limits of names, nesting and statements, with the token behind the prefix
abbrev pub used : List Token → Token → Limits
used front token = record { name_bytes = name_bytes token; nested = length (open_behind false [] (front ++ token ∷ [])); statements = statements_behind 0 (front ++ token ∷ []) }

-- with the token behind the prefix no limit is passed, nor that of 256 operands, literals, names, operators and
-- functions
pub record StaysWithin (limits : Limits) (front : List Token) (token : Token) : Type 0 where
  pub room : AreWithin limits (used front token)
  pub nodes : counted_at_end (front ++ token ∷ []) ≤ most_nodes

-- no limit is passed with any of the tokens
abbrev pub AllStayWithin : Limits → List Token → Type 0
AllStayWithin limits tokens = (front : List Token) (token : Token) (behind : List Token) → tokens ≡ front ++ token ∷ behind → StaysWithin limits front token
