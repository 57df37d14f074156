-- The parts of a rule stand on lines in their order.
use Rattle.rule_reader.proofs.Common.{◌≡◌, ℕ, zero, suc, ◌+◌, ◌<◌, ◌≤◌, Bool, true, false, cond, eqb, List, [], ◌∷◌, ◌++◌, length, append_assoc, take, Option, Some, None, refl, sym, ap, subst, ◌∙◌, arith, slice_get, codes, same_Some, take-take, sum_by-take-drop, RuleKind, line_of, rest_of_line, line_at, RawStatement, SpellsStatements, Part, Maybe, Context, BitFact, is_opcode, fact_in, Token, Line, Head, Name, Word, Fact, Number, Arrow, Mark, Other, Bad, Excess, word_of, token_of, token_at, is_called, bytes_at, Place, TokensFrom, ends, token, bad_token, bad_name, AreInLineOrder, Version, rule_limits}
use Rattle.std.specs.List.{sum_by}
use Rattle.scan.specs.declared.rule_token.RuleKind.TheVariants as kinds
use Rattle.rule_tokens.specs.Tokens.{Register, Opcode, name as at_name}

-- the lines' numbers ascend, and none is below `low`
unfoldable pub Ascend : ℕ → List Token → Type 0
Ascend low [] = Unit {0}
Ascend low (Line n ∷ tokens) = (low ≤ n) × Ascend n tokens
Ascend low (Head text ∷ tokens) = Ascend low tokens
Ascend low (Name text ∷ tokens) = Ascend low tokens
Ascend low (Register text ∷ tokens) = Ascend low tokens
Ascend low (Word text ∷ tokens) = Ascend low tokens
Ascend low (Opcode text ∷ tokens) = Ascend low tokens
Ascend low (Fact fact ∷ tokens) = Ascend low tokens
Ascend low (Number text ∷ tokens) = Ascend low tokens
Ascend low (Arrow ∷ tokens) = Ascend low tokens
Ascend low (Mark text ∷ tokens) = Ascend low tokens
Ascend low (Other ∷ tokens) = Ascend low tokens
Ascend low (Bad ∷ tokens) = Ascend low tokens
Ascend low (Excess ∷ tokens) = Ascend low tokens

lower : (low high : ℕ) (tokens : List Token) → low ≤ high → Ascend high tokens → Ascend low tokens
unfolding Ascend
lower low high [] le up = tt
lower low high (Line n ∷ tokens) le up = (omega (arith, up.0), up.1)
lower low high (Head text ∷ tokens) le up = lower low high tokens le up
lower low high (Name text ∷ tokens) le up = lower low high tokens le up
lower low high (Register text ∷ tokens) le up = lower low high tokens le up
lower low high (Word text ∷ tokens) le up = lower low high tokens le up
lower low high (Opcode text ∷ tokens) le up = lower low high tokens le up
lower low high (Fact fact ∷ tokens) le up = lower low high tokens le up
lower low high (Number text ∷ tokens) le up = lower low high tokens le up
lower low high (Arrow ∷ tokens) le up = lower low high tokens le up
lower low high (Mark text ∷ tokens) le up = lower low high tokens le up
lower low high (Other ∷ tokens) le up = lower low high tokens le up
lower low high (Bad ∷ tokens) le up = lower low high tokens le up
lower low high (Excess ∷ tokens) le up = lower low high tokens le up

-- behind some of the tokens they go on ascending
pub skip : (low : ℕ) (xs ys : List Token) → Ascend low (xs ++ ys) → (m : ℕ) × (low ≤ m) × Ascend m ys
unfolding Ascend
skip low [] ys up = (low, (omega arith), up)
skip low (Line n ∷ xs) ys up = let (m, le, rest) = skip n xs ys up.1 in (m, (omega (arith, up.0)), rest)
skip low (Head text ∷ xs) ys up = skip low xs ys up
skip low (Name text ∷ xs) ys up = skip low xs ys up
skip low (Register text ∷ xs) ys up = skip low xs ys up
skip low (Word text ∷ xs) ys up = skip low xs ys up
skip low (Opcode text ∷ xs) ys up = skip low xs ys up
skip low (Fact fact ∷ xs) ys up = skip low xs ys up
skip low (Number text ∷ xs) ys up = skip low xs ys up
skip low (Arrow ∷ xs) ys up = skip low xs ys up
skip low (Mark text ∷ xs) ys up = skip low xs ys up
skip low (Other ∷ xs) ys up = skip low xs ys up
skip low (Bad ∷ xs) ys up = skip low xs ys up
skip low (Excess ∷ xs) ys up = skip low xs ys up

-- a later place in the text is on the same or a later line
line_more : (text : List ℕ) (m n : ℕ) → m ≤ n → line_of text m ≤ line_of text n
line_more text m n le =
    let f : ℕ → ℕ = λ b. cond (eqb b 10) 1 0 in
    let parts = sum_by-take-drop f (take n text) m in
    let same : sum_by f (take m (take n text)) ≡ sum_by f (take m text) = ap (sum_by f) (take-take m n text le) in
    omega (arith, parts, same)

-- a token of this kind is no line's number
no_word_line : (fact : Option BitFact) (opcode : Bool) (bytes : List ℕ) (low : ℕ) (tokens : List Token) → Ascend low tokens → Ascend low (word_of fact opcode bytes ∷ tokens)
unfolding Ascend
no_word_line (Some fact) opcode bytes low tokens up = up
no_word_line None true bytes low tokens up = up
no_word_line None false bytes low tokens up = up

no_line : (c : Context) (called : Bool) (kind : RuleKind) (bytes : List ℕ) (low : ℕ) (tokens : List Token) → Ascend low tokens → Ascend low (token_of c called kind bytes ∷ tokens)
unfolding Ascend
no_line c called kinds.End bytes low tokens up = up
no_line c called kinds.Other bytes low tokens up = up
no_line c called kinds.Head bytes low tokens up = up
no_line c called kinds.Register bytes low tokens up = up
no_line c called kinds.Word bytes low tokens up = no_word_line (fact_in c.version bytes) (is_opcode c called bytes) bytes low tokens up
no_line c called kinds.Number bytes low tokens up = up
no_line c called kinds.Arrow bytes low tokens up = up
no_line c called kinds.Mark bytes low tokens up = up

on_line : (b : Bool) (low at : ℕ) (t : Token) (tokens : List Token) → low ≤ at → Ascend at (t ∷ tokens) → Ascend low (cond b (t ∷ tokens) (Line at ∷ t ∷ tokens))
unfolding Ascend
on_line true low at t tokens le up = lower low at (t ∷ tokens) le up
on_line false low at t tokens le up = (le, up)

kind_line : (kind : RuleKind) (text : List ℕ) (start : ℕ) → ¬ (kind ≡ kinds.End) → line_at kind text start ≡ line_of text start
kind_line kinds.End text start not = absurd (not refl)
kind_line kinds.Other text start not = refl
kind_line kinds.Head text start not = refl
kind_line kinds.Register text start not = refl
kind_line kinds.Word text start not = refl
kind_line kinds.Number text start not = refl
kind_line kinds.Arrow text start not = refl
kind_line kinds.Mark text start not = refl

pub up_from : (text : List ℕ) (place : Place) (at before last : ℕ) (tokens : List Token) → TokensFrom text place at before tokens last → Ascend (line_of text at) tokens
unfolding Ascend
up_from text _ at before last _ (ends t next end is) = tt
up_from text _ at before last _ (token {c} {tokens = tokens} t next not rest) =
    let on : t.line ≡ line_of text t.span.start = next.line ∙ kind_line t.kind text t.span.start not in
    let le : line_of text at ≤ line_of text t.span.start = line_more text at t.span.start (next.order.0) in
    let le' : line_of text t.span.start ≤ line_of text t.span.end = line_more text t.span.start t.span.end (next.order.1) in
    let later = up_from text _ t.span.end t.line last tokens rest in
    on_line (eqb t.line before) (line_of text at) t.line (token_at text c t) tokens (omega arith) (no_line c (is_called text t.span.end) t.kind (bytes_at text t.span) t.line tokens (lower t.line (line_of text t.span.end) tokens (omega arith) later))
up_from text _ at before last _ (at_name {found} {tokens} named rest) =
    subst (λ t. Ascend (line_of text at) (t ∷ tokens)) (sym named.2)
    (lower (line_of text at) (line_of text (at + length (rest_of_line text at))) tokens (line_more text at (at + length (rest_of_line text at)) (omega arith)) (up_from text _ (at + length (rest_of_line text at)) before last tokens rest))
up_from text _ at before last _ (bad_token next) =
    let le : line_of text at ≤ line_of text next.start = line_more text at next.start next.order in
    on_line (eqb last before) (line_of text at) last Bad [] (omega (arith, next.line_is)) tt
up_from text _ at before last _ (bad_name next) = tt

-- statements on lines from `low` on, in order, and more tokens on lines behind theirs
pub record Ordered (low : ℕ) (ss : List RawStatement) (behind : List Token) : Type 0 where
  pub not_before : (k : ℕ) (s : RawStatement) → slice_get ss k ≡ Some s → low ≤ s.line
  pub in_order : AreInLineOrder ss
  pub last : ℕ
  pub not_behind : (k : ℕ) (s : RawStatement) → slice_get ss k ≡ Some s → s.line ≤ last
  pub reaches : low ≤ last
  pub goes_on : Ascend last behind

pub none_at : {X : Type 0} (k : ℕ) (x : X) → slice_get [] k ≡ Some x → ⊥
none_at zero x at = cc
none_at (suc k) x at = cc

pub ordered : (version : Version) (half : _) (low : ℕ) (ss : List RawStatement) (tokens behind : List Token) → SpellsStatements rule_limits version half ss tokens → Ascend low (tokens ++ behind) → Ordered low ss behind
unfolding Ascend
ordered version half low [] tokens behind is up =
    record {
      not_before = λ k s at. absurd (none_at k s at);
      in_order = λ j k s t lt at at'. absurd (none_at j s at);
      last = low;
      not_behind = λ k s at. absurd (none_at k s at);
      reaches = omega arith;
      goes_on = subst (λ l. Ascend low (l ++ behind)) is up;
    }
ordered version half low (s ∷ ss) tokens behind (own, rest, spelled, others, is) up =
    let whole : tokens ++ behind ≡ Line s.line ∷ (Register s.name ∷ Mark (codes "=") ∷ spelled.op) ++ (rest ++ behind) =
    ap (λ l. l ++ behind) is ∙ append_assoc own rest behind ∙ ap (λ l. l ++ (rest ++ behind)) spelled.spelled in
    let start = subst (λ l. Ascend low l) whole up in
    let (m, le, later) = skip s.line (Register s.name ∷ Mark (codes "=") ∷ spelled.op) (rest ++ behind) start.1 in
    let next = ordered version half m ss rest behind others later in
    record {
      not_before = λ k t at. elim k as (λ i. slice_get (s ∷ ss) i ≡ Some t → low ≤ t.line) [
        | zero ↦ λ e. let same : s ≡ t = same_Some s t e in let line : s.line ≡ t.line = ap (λ (z : RawStatement). z.line) same in omega (arith, start.0)
        | suc i ↦ λ e. let below : m ≤ t.line = next.not_before i t e in omega (arith, start.0)
      ] at;
      in_order = λ j k t v lt at at'. elim j as (λ i. i < k → slice_get (s ∷ ss) i ≡ Some t → t.line ≤ v.line) [
        | zero ↦ λ lt' e. elim k as (λ i. 0 < i → slice_get (s ∷ ss) i ≡ Some v → t.line ≤ v.line) [
          | zero ↦ λ lt'' e'. absurd (omega arith)
          | suc i ↦ λ lt'' e'. let same : s ≡ t = same_Some s t e in let line : s.line ≡ t.line = ap (λ (z : RawStatement). z.line) same in let below : m ≤ v.line = next.not_before i v e' in omega arith
        ] lt' at'
        | suc i ↦ λ lt' e. elim k as (λ n. suc i < n → slice_get (s ∷ ss) n ≡ Some v → t.line ≤ v.line) [
          | zero ↦ λ lt'' e'. absurd (omega arith)
          | suc n ↦ λ lt'' e'. next.in_order i n t v (omega arith) e e'
        ] lt' at'
      ] lt at;
      last = next.last;
      not_behind = λ k t at. elim k as (λ i. slice_get (s ∷ ss) i ≡ Some t → t.line ≤ next.last) [
        | zero ↦ λ e. let same : s ≡ t = same_Some s t e in let line : s.line ≡ t.line = ap (λ (z : RawStatement). z.line) same in omega (arith, next.reaches)
        | suc i ↦ λ e. next.not_behind i t e
      ] at;
      reaches = omega (arith, start.0, next.reaches);
      goes_on = next.goes_on;
    }

-- an optional part on a line from `low` on, and more tokens on lines behind it
pub record Headed {X : Type 0} (line : X → ℕ) (low : ℕ) (part : Option X) (behind : List Token) : Type 0 where
  pub not_before : (x : X) → part ≡ Some x → low ≤ line x
  pub last : ℕ
  pub not_behind : (x : X) → part ≡ Some x → line x ≤ last
  pub reaches : low ≤ last
  pub goes_on : Ascend last behind

-- what spells the part begins with the number of its line
abbrev pub BeginsLine : {X : Type 0} → (X → ℕ) → (X → Part) → Type 0
BeginsLine {X} line P = (x : X) (own : List Token) → P x own → (inner : List Token) × (own ≡ Line (line x) ∷ inner)

pub headed : {X : Type 0} (line : X → ℕ) (P : X → Part) (low : ℕ) (part : Option X) (own behind : List Token) → BeginsLine line P → Maybe P part own → Ascend low (own ++ behind) → Headed line low part behind
unfolding Ascend
headed line P low None own behind begins is up =
    record {
      not_before = λ x e. absurd (cc);
      last = low;
      not_behind = λ x e. absurd (cc);
      reaches = omega arith;
      goes_on = subst (λ l. Ascend low (l ++ behind)) is up;
    }
headed line P low (Some y) own behind begins spelled up =
    let (inner, is) = begins y own spelled in
    let start = subst (λ l. Ascend low (l ++ behind)) is up in
    let (m, le, later) = skip (line y) inner behind start.1 in
    record {
      not_before = λ x e. let same : line y ≡ line x = ap line (same_Some y x e) in omega (arith, start.0);
      last = m;
      not_behind = λ x e. let same : line y ≡ line x = ap line (same_Some y x e) in omega arith;
      reaches = omega (arith, start.0);
      goes_on = later;
    }
