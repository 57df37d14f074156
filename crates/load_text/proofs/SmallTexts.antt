-- A text spells no more rules than it has bytes: each rule has a name, behind the five bytes of `Name:`.
use Rattle.load_text.proofs.Common.{◌≡◌, ◌≢◌, ℕ, suc, ◌+◌, ◌-◌, ◌≤◌, Bool, true, false, cond, eqb, List, [], ◌∷◌, ◌++◌, length, refl, sym, ap, subst, ◌∙◌, arith, codes, drop, Option, Some, None, bytes_eq, length-take, bytes_eq-Decides, RuleKind, RuleToken, rest_of_line, IsNextRuleToken, Context, Version, BitFact, context_behind, is_opcode, fact_in, Limits, Token, Line, Name, Bad, Place, AtName, AtToken, TokensFrom, ends, token, name, bad_token, bad_name, token_of, token_on, token_at, word_of, is_called, bytes_at, place_behind, RawRule, SpellsRules, SpellsFile, RuleTextsAreSmall}
use Rattle.scan.specs.declared.rule_token.RuleKind.TheVariants as kinds

-- how many of the tokens are names of rules
abbrev names_in : List Token → ℕ
names_in [] = 0
names_in (Name text ∷ tokens) = suc (names_in tokens)
names_in (t ∷ tokens) = names_in tokens

names_append : (xs ys : List Token) → names_in (xs ++ ys) ≡ names_in xs + names_in ys
names_append [] ys = omega arith
names_append (Name text ∷ xs) ys = omega (arith, names_append xs ys)
names_append (t ∷ xs) ys = names_append xs ys

-- ---- each rule has one of them

rules_named : (limits : Limits) (version : Version) (raws : List RawRule) (tokens : List Token) → SpellsRules limits version raws tokens → length raws ≤ names_in tokens
rules_named limits version [] tokens is = omega arith
rules_named limits version (raw ∷ raws) tokens (own, rest, one, more, whole) =
    let all : names_in tokens ≡ names_in own + names_in rest = ap names_in whole ∙ names_append own rest in
    let own_name : names_in own ≡ suc (names_in (one.precondition ++ (one.witness ++ (one.source ++ Line one.arrow_line ∷ _)))) = ap names_in one.spelled in
    omega (arith, all, own_name, rules_named limits version raws rest more)

file_named : (limits : Limits) (raws : List RawRule) (tokens : List Token) → SpellsFile limits raws tokens → length raws ≤ names_in tokens
file_named limits raws tokens (version, (front, back, is_version, is, whole)) =
    let all : names_in tokens ≡ names_in front + names_in back = ap names_in whole ∙ names_append front back in
    omega (arith, all, rules_named limits version raws back is)

-- ---- a text has no more of them than bytes

-- no other token is one
word_none : (fact : Option BitFact) (opcode : Bool) (bytes : List ℕ) (tokens : List Token) → names_in (word_of fact opcode bytes ∷ tokens) ≡ names_in tokens
word_none (Some fact) opcode bytes tokens = refl
word_none None true bytes tokens = refl
word_none None false bytes tokens = refl

token_none : (c : Context) (called : Bool) (kind : RuleKind) (bytes : List ℕ) (tokens : List Token) → names_in (token_of c called kind bytes ∷ tokens) ≡ names_in tokens
token_none c called kinds.End bytes tokens = refl
token_none c called kinds.Other bytes tokens = refl
token_none c called kinds.Head bytes tokens = refl
token_none c called kinds.Register bytes tokens = refl
token_none c called kinds.Word bytes tokens = word_none (fact_in c.version bytes) (is_opcode c called bytes) bytes tokens
token_none c called kinds.Number bytes tokens = refl
token_none c called kinds.Arrow bytes tokens = refl
token_none c called kinds.Mark bytes tokens = refl

line_none : (before line : ℕ) (t : Token) (tokens : List Token) → names_in (token_on before line t tokens) ≡ names_in (t ∷ tokens)
line_none before line t tokens = by (eqb line before)
  where
    by : (b : Bool) → names_in (cond b (t ∷ tokens) (Line line ∷ t ∷ tokens)) ≡ names_in (t ∷ tokens)
    by true = refl
    by false = refl

-- the tokens from a place on have at most one name more than bytes are left, and behind `Name:` one more
abbrev AreFew : List ℕ → Place → ℕ → List Token → Type 0
AreFew text (AtToken c) at tokens = names_in tokens ≤ length text - at
AreFew text (AtName c) at tokens = names_in tokens ≤ suc (length text - at)

behind_token : (text : List ℕ) (c : Context) (at : ℕ) (t : RuleToken) (tokens : List Token) → IsNextRuleToken c.operator text at t
    → AreFew text (place_behind c t.kind (bytes_at text t.span)) t.span.end tokens → names_in tokens ≤ length text - at
behind_token text c at t tokens next few = by (bytes_eq (bytes_at text t.span) (codes "Name:")) refl few
  where
    by : (b : Bool) → bytes_eq (bytes_at text t.span) (codes "Name:") ≡ b → AreFew text (cond b (AtName c) (AtToken (context_behind c t.kind (bytes_at text t.span)))) t.span.end tokens → names_in tokens ≤ length text - at
    by true e few =
        let head : length (bytes_at text t.span) ≡ 5 = ap (λ (l : List ℕ). length l) ((bytes_eq-Decides (bytes_at text t.span) (codes "Name:")).0 e) in
        omega (arith, few, head, next.order.0, next.order.1, next.order.2, length-take (t.span.end - t.span.start) (drop t.span.start text))
    by false e few = omega (arith, few, next.order.0, next.order.1, next.order.2)

few_names : (text : List ℕ) {place : Place} {at line last : ℕ} {tokens : List Token} → TokensFrom text place at line tokens last → AreFew text place at tokens
few_names text (ends t next end same) = omega arith
few_names text (token {c} {at} {line} {tokens = tokens} t next ne more) =
    let same : names_in (token_on line t.line (token_at text c t) tokens) ≡ names_in tokens =
    line_none line t.line (token_at text c t) tokens ∙ token_none c (is_called text t.span.end) t.kind (bytes_at text t.span) tokens
    in
    omega (arith, same, behind_token text c at t tokens next (few_names text more))
few_names text (name {at = at} {found = found} {tokens = tokens} is more) =
    let same : names_in (found ∷ tokens) ≡ suc (names_in tokens) = ap (λ (f : Token). names_in (f ∷ tokens)) is.2 in
    omega (arith, same, few_names text more)
few_names text (bad_token {line = line} {last = last} bad) = let same : names_in (token_on line last Bad []) ≡ 0 = line_none line last Bad [] in omega (arith, same)
few_names text (bad_name bad) = omega arith

pub texts_small : RuleTextsAreSmall
texts_small text rules is =
    omega (arith, is.read.count, file_named _ is.raws is.written.tokens is.written.spelled, few_names text is.written.are_tokens)
