-- The tokens of a rule file in order, and which text they are of.
use Rattle.std.specs.Prelude.{◌≡◌, ◌≢◌, ℕ, ◌+◌, ◌==◌, Bool, true, false, if◌then◌else◌, List, [], ◌∷◌, length, drop, Option, Some, None, codes}
use Rattle.std.specs.Str.{bytes_eq}
use Rattle.scan.specs.declared.rule_token.RuleKind.{RuleKind}
use Rattle.scan.specs.declared.rule_token.RuleKind.TheVariants as kinds
use Rattle.scan.specs.declared.rule_token.RuleToken.{RuleToken}
use Rattle.scan.specs.declared.span.Span.{Span}
use Rattle.scan.specs.Bytes.{begins_with}
use Rattle.scan.specs.Lines.{between}
use Rattle.scan.specs.Names.{IsNameNext, IsBadInRest, rest_of_line}
use Rattle.scan.specs.RuleTokens.{IsNextRuleToken, IsBadNext}
use Rattle.rule_tokens.specs.declared.context.Context.{Context}
use Rattle.rule_tokens.specs.declared.fact.BitFact.{BitFact}
use Rattle.rule_tokens.specs.Contexts.{at_start, context_behind, behind_name, is_opcode}
use Rattle.rule_tokens.specs.Facts.{fact_in}

-- a token, with its bytes where they tell more than its kind
pub data Token : Type 0 where
  -- the tokens behind stand on another line, with this number
  Line : (number : ℕ) → Token
  -- `Version:`, `Name:`, `Pre:` or `Wit:`
  Head : (text : List ℕ) → Token
  -- the name of a rule: the rest of the line of its `Name:`
  Name : (text : List ℕ) → Token
  -- a register, without its `%`
  Register : (name : List ℕ) → Token
  Word : (text : List ℕ) → Token
  -- a word that is an opcode where the same bytes elsewhere are a function of terms (`abs`)
  Opcode : (text : List ℕ) → Token
  -- a word that is a fact on the bits of a register
  Fact : (fact : BitFact) → Token
  Number : (text : List ℕ) → Token
  Arrow : Token
  Mark : (text : List ℕ) → Token
  -- a printable byte that begins no token
  Other : Token
  -- a byte that may not stand here; it ends the list of tokens
  Bad : Token
  -- stands behind the token with which a rule passes the limit of operands, literals, names, operators and functions,
  -- and ends the list of tokens
  Excess : Token

-- a word, which is a fact, or an opcode, or neither
abbrev pub word_of : Option BitFact → Bool → List ℕ → Token
word_of (Some fact) opcode word = Fact fact
word_of None true word = Opcode word
word_of None false word = Word word

-- the token of a kind other than the end, with its bytes; `called` where `(` stands directly behind it
abbrev pub token_of : Context → Bool → RuleKind → List ℕ → Token
token_of c called kinds.End bytes = Other
token_of c called kinds.Other bytes = Other
token_of c called kinds.Head bytes = Head bytes
token_of c called kinds.Register bytes = Register (drop 1 bytes)
token_of c called kinds.Word bytes = word_of (fact_in c.version bytes) (is_opcode c called bytes) bytes
token_of c called kinds.Number bytes = Number bytes
token_of c called kinds.Arrow bytes = Arrow
token_of c called kinds.Mark bytes = Mark bytes

-- a token in front of others; the number of its line comes first where the token before is on another line
abbrev pub token_on : ℕ → ℕ → Token → List Token → List Token
token_on before line token tokens = if line == before then token ∷ tokens else Line line ∷ token ∷ tokens

-- what is looked for next: behind `Name:` the rest of the line, which is a rule's name, and else a token
pub data Place : Type 0 where
  AtName : (context : Context) → Place
  AtToken : (context : Context) → Place

-- what is looked for behind a token of this kind with these bytes
abbrev pub place_behind : Context → RuleKind → List ℕ → Place
place_behind c kind bytes = if bytes_eq bytes (codes "Name:") then AtName c else AtToken (context_behind c kind bytes)

-- the bytes of a part of the text
abbrev pub bytes_at : List ℕ → Span → List ℕ
bytes_at text span = between text span.start span.end

-- `(` stands at this place of the text
abbrev pub is_called : List ℕ → ℕ → Bool
is_called text at = begins_with (λ b. b == 40) (drop at text)

-- the token that the lexer found, as the parser sees it
abbrev pub token_at : List ℕ → Context → RuleToken → Token
token_at text c t = token_of c (is_called text t.span.end) t.kind (bytes_at text t.span)

-- the token of the name of a rule that begins at this place
abbrev pub IsNameToken : List ℕ → ℕ → Token → Type 0
IsNameToken text at name = (span : Span) × IsNameNext text at span × (name ≡ Name (bytes_at text span))

-- The tokens of a text from a place on, where the token before ended on this line, and the text's last line. They end
-- with the text, or with the first byte that may not stand where it does.
pub data TokensFrom (text : List ℕ) : Place → ℕ → ℕ → List Token → ℕ → Type 0 where
  ends : {c : Context} {at line last : ℕ} (t : RuleToken)
      → IsNextRuleToken c.operator text at t → t.kind ≡ kinds.End → last ≡ t.line
      → TokensFrom text (AtToken c) at line [] last
  token : {c : Context} {at line last : ℕ} {tokens : List Token} (t : RuleToken)
      → IsNextRuleToken c.operator text at t → t.kind ≢ kinds.End
      → TokensFrom text (place_behind c t.kind (bytes_at text t.span)) t.span.end t.line tokens last
      → TokensFrom text (AtToken c) at line (token_on line t.line (token_at text c t) tokens) last
  name : {c : Context} {at line last : ℕ} {found : Token} {tokens : List Token}
      → IsNameToken text at found
      → TokensFrom text (AtToken (behind_name c)) (at + length (rest_of_line text at)) line tokens last
      → TokensFrom text (AtName c) at line (found ∷ tokens) last
  bad_token : {c : Context} {at line last : ℕ} → IsBadNext text at last → TokensFrom text (AtToken c) at line (token_on line last Bad []) last
  bad_name : {c : Context} {at line last : ℕ} → IsBadInRest text at last → TokensFrom text (AtName c) at line (Bad ∷ []) last

-- the tokens of a text, those of each line behind its number, and the text's last line
abbrev pub AreTokens : List ℕ → List Token → ℕ → Type 0
AreTokens text tokens last = TokensFrom text (AtToken at_start) 0 0 tokens last
