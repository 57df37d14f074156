-- The tokens that the parser is given: all of them, or, where a rule passes the limit of operands, literals, names,
-- operators and functions, those up to and with the one that passes it, and `Excess`.
use Rattle.std.specs.Prelude.{ℕ, zero, suc, Bool, true, false, not, ◌||◌, if◌then◌else◌, List, [], ◌∷◌, Option, Some, None, codes}
use Rattle.std.specs.Str.{bytes_eq}
use Rattle.scan.specs.RuleTokens.{is_among, ends_primary}
use Rattle.scan.specs.declared.rule_token.RuleKind.TheVariants as kinds
use Rattle.rule_parse.specs.Limits.{most_nodes}
use Rattle.rule_tokens.specs.Tokens.{Token, Line, Head, Register, Word, Fact, Number, Mark, Excess}

-- words that are operands, functions or predicates of `Pre:`
abbrev pub node_words : List (List ℕ)
node_words =
    codes "true" ∷ codes "false" ∷ codes "undef" ∷ codes "width" ∷ codes "log2" ∷ codes "abs"
    ∷ codes "isPowerOf2" ∷ codes "isSignBit" ∷ codes "hasOneUse" ∷ []

unfoldable pub is_node_word : List ℕ → Bool
is_node_word word = ends_primary kinds.Word word || is_among node_words word

-- marks that are no operators
abbrev pub plain_marks : List (List ℕ)
plain_marks = codes "=" ∷ codes "," ∷ codes "(" ∷ codes ")" ∷ []

-- The token counts as an operand, literal, name, operator or function. A register that begins a line is assigned there
-- and doesn't count.
abbrev pub is_counted : Bool → Token → Bool
is_counted begins (Register name) = not begins
is_counted begins (Number text) = true
is_counted begins (Word word) = is_node_word word
is_counted begins (Fact fact) = true
is_counted begins (Mark mark) = not (is_among plain_marks mark)
is_counted begins token = false

-- the token is a line's number, so the one behind it begins that line
abbrev pub ends_before_line : Token → Bool
ends_before_line (Line number) = true
ends_before_line token = false

-- the token begins a rule
abbrev pub begins_rule : Token → Bool
begins_rule (Head text) = bytes_eq text (codes "Name:")
begins_rule token = false

-- the room that is left behind a token that counts, of this room before it; none where there was none
abbrev pub one_less : ℕ → Option ℕ
one_less zero = None
one_less (suc room) = Some room

abbrev pub room_behind : ℕ → Bool → Token → Option ℕ
room_behind room begins token =
    if begins_rule token then Some most_nodes
    else (if is_counted begins token then one_less room else Some room)

-- behind a token for which there was no room stands `Excess`, and nothing more
abbrev pub or_excess : Token → Option ℕ → (ℕ → List Token) → List Token
or_excess token None others = token ∷ Excess ∷ []
or_excess token (Some room) others = token ∷ others room

-- the tokens with the limit, where this much room is left in the rule and the first token begins its line or not
unfoldable pub limited_to : ℕ → Bool → List Token → List Token
limited_to room begins [] = []
limited_to room begins (token ∷ tokens) = or_excess token (room_behind room begins token) (λ left. limited_to left (ends_before_line token) tokens)

-- the tokens of a text with the limit
abbrev pub limited : List Token → List Token
limited tokens = limited_to most_nodes false tokens
