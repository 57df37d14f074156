-- How many operands, literals, names, operators and functions the last rule of a list of tokens has.
use Rattle.std.specs.Prelude.{◌≡◌, ℕ, ◌+◌, ◌≤◌, false, if◌then◌else◌, List, [], ◌∷◌, ◌++◌}
use Rattle.std.specs.List.{list_any}
use Rattle.rule_parse.specs.CutTokens.{is_counted, begins_rule}
use Rattle.rule_parse.specs.Limits.{most_nodes}
use Rattle.rule_tokens.specs.Tokens.{Token, Line, Register, Excess}

-- how many of the tokens count; a register that begins a line does not
abbrev pub counted : List Token → ℕ
counted [] = 0
counted (Line number ∷ Register name ∷ tokens) = counted tokens
counted (token ∷ tokens) = (if is_counted false token then 1 else 0) + counted tokens

-- the tokens behind the last `Name:`, or all of them where there is none
abbrev pub last_rule : List Token → List Token
last_rule [] = []
last_rule (token ∷ tokens) =
    if list_any begins_rule tokens then last_rule tokens
    else (if begins_rule token then tokens else token ∷ tokens)

-- how many count in the last rule of the tokens
abbrev pub counted_at_end : List Token → ℕ
counted_at_end tokens = counted (last_rule tokens)

-- in no prefix of the tokens the last rule has more than 256
abbrev pub IsWithinLimit : List Token → Type 0
IsWithinLimit tokens = (front back : List Token) → tokens ≡ front ++ back → counted_at_end front ≤ most_nodes

-- the tokens up to and with the first one that passes the limit, and `Excess` behind it
pub record IsCut (tokens kept : List Token) : Type 0 where
  pub front : List Token
  pub token : Token
  pub rest : List Token
  pub whole : tokens ≡ front ++ token ∷ rest
  pub within : IsWithinLimit front
  pub full : counted_at_end front ≡ most_nodes
  pub passed : counted_at_end (front ++ token ∷ []) ≡ most_nodes + 1
  pub cut : kept ≡ front ++ token ∷ Excess ∷ []
