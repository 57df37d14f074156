-- The tokens of a text begin with a line's number, and so do those behind a rule's name, which reaches to the end of
-- its line.
use Rattle.rule_viable_prefixes.proofs.Common.{◌≡◌, ◌≢◌, ℕ, zero, suc, ◌+◌, ◌-◌, ◌<◌, ◌≤◌, Bool, true, false, not, ◌||◌, cond, eqb, List, [], ◌∷◌, length, take, drop, Option, Some, None, refl, sym, ap, subst, ◌∙◌, ⊎_elim, ◌⊎◌, inl, inr, arith, length-drop, codes, prefix_len, bytes_eq, eqb-true, one-add, drop-drop, length-take-le, prefix_len-le-length, same_word, RuleKind, RuleToken, is_blank, is_space, is_printable, is_bad, is_digit, is_letter, is_word_byte, begins_with, IsGap, nothing, space, comment, between, feeds, is_in_rest, rest_of_line, is_unsigned_operator, is_remainder, is_placed_operator, is_mark, is_register, is_rule_word, is_negative, is_literal, kind_of, IsLongestToken, IsGapBefore, line_at, in_operator_place, IsNextRuleToken, IsBadNext, which, feeds_append, feeds_between, run_feeds, ends_or_not, Token, Line, Head, Name, Register, Word, Fact, Number, Mark, Bad, Excess, word_of, token_of, token_at, token_on, is_called, Place, AtName, place_behind, bytes_at, TokensFrom, bad_token, bad_name, AreTokens, EndsLine, Context, BitFact, at_start, context_behind, behind_name, is_opcode, fact_in, limited_to, room_behind, or_excess, IsOfText, AreOfText}
use Rattle.scan.specs.declared.rule_token.RuleKind.TheVariants as kinds
use Rattle.scan.specs.Lines.{line_of}
use Rattle.scan.specs.RuleTokens.{Begins}
use Rattle.rule_tokens.specs.Tokens.{Opcode, AtToken, ends, token, name}
use Rattle.rule_viable_prefixes.proofs.Lines.{NamesEndLines}

-- ---- what ends the rest of a line

-- the byte behind the rest of a line is a line feed or begins a comment
breaks : (b : ℕ) → is_in_rest b ≡ false → (b ≡ 10) ⊎ (b ≡ 59)
unfolding is_in_rest
breaks b e = by (eqb b 10) (eqb b 59) refl refl e
  where
    by : (p q : Bool) → eqb b 10 ≡ p → eqb b 59 ≡ q → not (p || q) ≡ false → (b ≡ 10) ⊎ (b ≡ 59)
    by true q g h e = inl (eqb-true b 10 g)
    by false true g h e = inr (eqb-true b 59 h)
    by false false g h e = absurd cc

no_kind : (operator : Bool) (b : ℕ) (bytes rest : List ℕ) → (b ≡ 10) ⊎ (b ≡ 59) → kind_of operator (b ∷ bytes) rest ≡ None
unfolding kind_of is_mark is_placed_operator is_unsigned_operator is_remainder is_register is_rule_word is_literal is_negative is_letter is_digit
no_kind true b bytes rest (inl is) = rw is refl
no_kind true b bytes rest (inr is) = rw is refl
no_kind false b bytes rest (inl is) = rw is refl
no_kind false b bytes rest (inr is) = rw is refl

no_empty_kind : (operator : Bool) (rest : List ℕ) → kind_of operator [] rest ≡ None
unfolding kind_of is_mark is_placed_operator is_unsigned_operator is_remainder is_register is_rule_word is_literal is_negative is_letter is_digit
no_empty_kind true rest = refl
no_empty_kind false rest = refl

no_token : (operator : Bool) (b : ℕ) (text : List ℕ) (kind : RuleKind) (n : ℕ) → (b ≡ 10) ⊎ (b ≡ 59) → IsLongestToken operator (b ∷ text) kind n → ⊥
no_token operator b text kind n breaks_line is = by n is.of_kind
  where
    by : (n : ℕ) → kind_of operator (take n (b ∷ text)) (drop n (b ∷ text)) ≡ Some kind → ⊥
    by zero e = let none = sym (no_empty_kind operator (b ∷ text)) ∙ e in absurd cc
    by (suc n) e = let none = sym (no_kind operator b (take n text) (drop n text) breaks_line) ∙ e in absurd cc

not_visible : (b : ℕ) → (b ≡ 10) ⊎ (b ≡ 59) → not (is_bad b || (is_space b || eqb b 59)) ≡ false
unfolding is_bad is_printable is_space is_blank
not_visible b (inl is) = rw is refl
not_visible b (inr is) = rw is refl

not_bad : (b : ℕ) → (b ≡ 10) ⊎ (b ≡ 59) → is_bad b ≡ false
unfolding is_bad is_printable is_space is_blank
not_bad b (inl is) = rw is refl
not_bad b (inr is) = rw is refl

contrary : (a : Bool) {G : Type 0} → a ≡ true → a ≡ false → G
contrary a p q = absurd cc

token_in_rest : (operator : Bool) (text : List ℕ) (kind : RuleKind) (n : ℕ) → kind ≢ kinds.End → 0 < length text → Begins operator text kind n → begins_with is_in_rest text ≡ false → ⊥
token_in_rest operator [] kind n ne some is e = absurd (omega arith)
token_in_rest operator (b ∷ text) kinds.End n ne some is e = ne refl
token_in_rest operator (b ∷ text) kinds.Other n ne some is e = contrary (not (is_bad b || (is_space b || eqb b 59))) is.0.visible (not_visible b (breaks b e))
token_in_rest operator (b ∷ text) kinds.Head n ne some is e = no_token operator b text kinds.Head n (breaks b e) is
token_in_rest operator (b ∷ text) kinds.Register n ne some is e = no_token operator b text kinds.Register n (breaks b e) is
token_in_rest operator (b ∷ text) kinds.Word n ne some is e = no_token operator b text kinds.Word n (breaks b e) is
token_in_rest operator (b ∷ text) kinds.Number n ne some is e = no_token operator b text kinds.Number n (breaks b e) is
token_in_rest operator (b ∷ text) kinds.Arrow n ne some is e = no_token operator b text kinds.Arrow n (breaks b e) is
token_in_rest operator (b ∷ text) kinds.Mark n ne some is e = no_token operator b text kinds.Mark n (breaks b e) is

bad_in_rest : (text : List ℕ) → begins_with is_bad text ≡ true → begins_with is_in_rest text ≡ false → ⊥
bad_in_rest [] bad e = absurd cc
bad_in_rest (b ∷ text) bad e = contrary (is_bad b) bad (not_bad b (breaks b e))

-- ---- a gap behind the rest of a line

-- a gap that begins with such a byte has a line feed
gap_feeds : (gap : List ℕ) → IsGap gap → begins_with is_in_rest gap ≡ false → (gap ≡ []) ⊎ (1 ≤ feeds gap)
unfolding is_space is_blank
gap_feeds gap nothing e = inl refl
gap_feeds gap (space {b} {bytes} s g) e = inr (by (breaks b e))
  where
    by : (b ≡ 10) ⊎ (b ≡ 59) → 1 ≤ feeds (b ∷ bytes)
    by (inl is) =
        let one : feeds (b ∷ []) ≡ 1 = rw is refl in
        let all : feeds (b ∷ bytes) ≡ feeds (b ∷ []) + feeds bytes = feeds_append (b ∷ []) bytes in
        omega (arith, one, all)
    by (inr is) = contrary (is_space b) s (rw is refl)
gap_feeds gap (comment {bytes} text rest whole inline g) e =
    let first : feeds (59 ∷ bytes) ≡ feeds (59 ∷ []) + feeds bytes = feeds_append (59 ∷ []) bytes in
    let middle : feeds bytes ≡ feeds text + feeds (10 ∷ rest) = ap feeds whole ∙ feeds_append text (10 ∷ rest) in
    let last : feeds (10 ∷ rest) ≡ 1 + feeds rest = feeds_append (10 ∷ []) rest in
    inr (omega (arith, first, middle, last))

take_begins : (p : ℕ → Bool) (k : ℕ) (text : List ℕ) → begins_with p text ≡ false → begins_with p (take k text) ≡ false
take_begins p zero text e = refl
take_begins p (suc k) [] e = refl
take_begins p (suc k) (b ∷ text) e = e

take_none : (k : ℕ) (text : List ℕ) → take k text ≡ [] → (k ≡ 0) ⊎ (text ≡ [])
take_none zero text e = inl refl
take_none (suc k) [] e = inr refl
take_none (suc k) (b ∷ text) e = absurd cc

-- a token behind such a gap is on a later line
later : (text : List ℕ) (place start : ℕ) → place ≤ start → 0 < length (drop start text) → IsGap (between text place start) → begins_with is_in_rest (drop place text) ≡ false → (begins_with is_in_rest (drop start text) ≡ false → ⊥)
    → line_of text place < line_of text start
later text place start order some gap e stands = by (gap_feeds (between text place start) gap (take_begins is_in_rest (start - place) (drop place text) e))
  where
    by : (between text place start ≡ []) ⊎ (1 ≤ feeds (between text place start)) → line_of text place < line_of text start
    by (inr feed) = omega (arith, feeds_between text place start order, feed)
    by (inl none) = at (take_none (start - place) (drop place text) none)
      where
        at : (start - place ≡ 0) ⊎ (drop place text ≡ []) → line_of text place < line_of text start
        at (inl zero_) = let here : place ≡ start = omega (arith, zero_, order) in absurd (stands (subst (λ (k : ℕ). begins_with is_in_rest (drop k text) ≡ false) here e))
        at (inr empty) = let no_more : length (drop place text) ≡ 0 = ap length empty in absurd (omega (arith, no_more, length-drop place text, length-drop start text, some, order))

run_stops : (p : ℕ → Bool) (text : List ℕ) → begins_with p (drop (prefix_len p text) text) ≡ false
run_stops p [] = refl
run_stops p (b ∷ text) = ⊎_elim
    (λ (h : p b ≡ true). rw (h, one-add) (run_stops p text))
    (λ (h : p b ≡ false). rw h h)
    (which (p b))

rest_stops : (text : List ℕ) (place : ℕ) → begins_with is_in_rest (drop (place + length (rest_of_line text place)) text) ≡ false
rest_stops text place =
    let long : length (rest_of_line text place) ≡ prefix_len is_in_rest (drop place text) = length-take-le (prefix_len is_in_rest (drop place text)) (drop place text) (prefix_len-le-length is_in_rest (drop place text)) in
    let there : drop (place + length (rest_of_line text place)) text ≡ drop (prefix_len is_in_rest (drop place text)) (drop place text) =
    sym (drop-drop (length (rest_of_line text place)) place text) ∙ ap (λ (n : ℕ). drop n (drop place text)) long in
    subst (λ (ts : List ℕ). begins_with is_in_rest ts ≡ false) (sym there) (run_stops is_in_rest (drop place text))

same_line : (text : List ℕ) (place : ℕ) → line_of text (place + length (rest_of_line text place)) ≡ line_of text place
unfolding is_in_rest
same_line text place = ap (λ (n : ℕ). n + 1) (run_feeds is_in_rest text place refl)

-- ---- the line of a token

line_is : (kind : RuleKind) (text : List ℕ) (start : ℕ) → kind ≢ kinds.End → line_at kind text start ≡ line_of text start
line_is kinds.End text start ne = absurd (ne refl)
line_is kinds.Other text start ne = refl
line_is kinds.Head text start ne = refl
line_is kinds.Register text start ne = refl
line_is kinds.Word text start ne = refl
line_is kinds.Number text start ne = refl
line_is kinds.Arrow text start ne = refl
line_is kinds.Mark text start ne = refl

gap_is : (kind : RuleKind) (gap : List ℕ) → kind ≢ kinds.End → IsGapBefore kind gap → IsGap gap
gap_is kinds.End gap ne g = absurd (ne refl)
gap_is kinds.Other gap ne g = g
gap_is kinds.Head gap ne g = g
gap_is kinds.Register gap ne g = g
gap_is kinds.Word gap ne g = g
gap_is kinds.Number gap ne g = g
gap_is kinds.Arrow gap ne g = g
gap_is kinds.Mark gap ne g = g

-- a token behind the rest of a line is on a later line
token_later : (operator : Bool) (text : List ℕ) (place : ℕ) (t : RuleToken) → IsNextRuleToken operator text (place + length (rest_of_line text place)) t → t.kind ≢ kinds.End → line_of text place < t.line
token_later operator text place t next ne =
    let after : ℕ = place + length (rest_of_line text place) in
    let some : 0 < length (drop t.span.start text) = token_there t.span.start (t.span.end - t.span.start) (omega (arith, next.order.1, next.order.2)) next.token in
    let further : line_of text after < line_of text t.span.start =
    later text after t.span.start next.order.0 some (gap_is t.kind (between text after t.span.start) ne next.gap) (rest_stops text place)
    (token_in_rest (in_operator_place operator (between text after t.span.start)) (drop t.span.start text) t.kind (t.span.end - t.span.start) ne some next.token) in
    omega (arith, further, same_line text place, next.line, line_is t.kind text t.span.start ne)
  where
    token_there : (start n : ℕ) → start ≤ length text → Begins (in_operator_place operator (between text (place + length (rest_of_line text place)) t.span.start)) (drop start text) t.kind n → 0 < length (drop start text)
    token_there start n within is = ⊎_elim
        (λ (h : (t.kind ≢ kinds.End) × (start < length text)). omega (arith, h.1, length-drop start text))
        (λ (h : (t.kind ≡ kinds.End) × (start ≡ length text)). absurd (ne h.0))
        (ends_or_not _ text start t.kind n within is)

bad_later : (text : List ℕ) (place line : ℕ) → IsBadNext text (place + length (rest_of_line text place)) line → line_of text place < line
bad_later text place line bad =
    let after : ℕ = place + length (rest_of_line text place) in
    let further : line_of text after < line_of text bad.start = later text after bad.start bad.order (some (drop bad.start text) bad.bad) bad.gap (rest_stops text place) (bad_in_rest (drop bad.start text) bad.bad) in
    omega (arith, further, same_line text place, bad.line_is)
  where
    some : (ts : List ℕ) → begins_with is_bad ts ≡ true → 0 < length ts
    some [] e = absurd cc
    some (b ∷ ts) e = omega arith

-- ---- tokens behind a name, and those of the whole text

on_another : (before line : ℕ) (t : Token) (tokens : List Token) → before < line → EndsLine (token_on before line t tokens)
on_another before line t tokens less = by (eqb line before) refl
  where
    by : (b : Bool) → eqb line before ≡ b → EndsLine (cond b (t ∷ tokens) (Line line ∷ t ∷ tokens))
    by true e = let equal : line ≡ before = eqb-true line before e in absurd (omega (arith, equal, less))
    by false e = tt

begins_lines : (text : List ℕ) (c : Context) (at line : ℕ) (tokens : List Token) (last : ℕ) (place : Place) → place ≡ AtToken c → TokensFrom text place at line tokens last
    → ((operator : Bool) (t : RuleToken) → IsNextRuleToken operator text at t → t.kind ≢ kinds.End → line < t.line) → ((bad : ℕ) → IsBadNext text at bad → line < bad) → EndsLine tokens
begins_lines text c at line tokens last place is (ends t next end same) later_token later_bad = tt
begins_lines text c at line tokens last place is (token {c = d} t next ne more) later_token later_bad = on_another line t.line _ _ (later_token d.operator t next ne)
begins_lines text c at line tokens last place is (name found more) later_token later_bad = absurd cc
begins_lines text c at line tokens last place is (bad_token bad) later_token later_bad = on_another line last Bad [] (later_bad last bad)
begins_lines text c at line tokens last place is (bad_name bad) later_token later_bad = absurd cc

no_word_name : (fact : Option BitFact) (opcode : Bool) (bytes : List ℕ) (tokens : List Token) → NamesEndLines tokens → NamesEndLines (word_of fact opcode bytes ∷ tokens)
no_word_name (Some fact) opcode bytes tokens n = n
no_word_name None true bytes tokens n = n
no_word_name None false bytes tokens n = n

no_name : (c : Context) (called : Bool) (kind : RuleKind) (bytes : List ℕ) (tokens : List Token) → NamesEndLines tokens → NamesEndLines (token_of c called kind bytes ∷ tokens)
no_name c called kinds.End bytes tokens n = n
no_name c called kinds.Other bytes tokens n = n
no_name c called kinds.Head bytes tokens n = n
no_name c called kinds.Register bytes tokens n = n
no_name c called kinds.Word bytes tokens n = no_word_name (fact_in c.version bytes) (is_opcode c called bytes) bytes tokens n
no_name c called kinds.Number bytes tokens n = n
no_name c called kinds.Arrow bytes tokens n = n
no_name c called kinds.Mark bytes tokens n = n

names_on : (before line : ℕ) (t : Token) (tokens : List Token) → NamesEndLines (t ∷ tokens) → NamesEndLines (token_on before line t tokens)
names_on before line t tokens n = by (eqb line before)
  where
    by : (b : Bool) → NamesEndLines (cond b (t ∷ tokens) (Line line ∷ t ∷ tokens))
    by true = n
    by false = n

-- a rule's name is read behind `Name:`, on the same line
abbrev pub IsAtName : Place → Type 0
IsAtName (AtName c) = Unit {0}
IsAtName (AtToken c) = ⊥

head_line : (text : List ℕ) (c : Context) (at : ℕ) (t : RuleToken) → IsNextRuleToken c.operator text at t → t.kind ≢ kinds.End → IsAtName (place_behind c t.kind (bytes_at text t.span)) → t.line ≡ line_of text t.span.end
head_line text c at t next ne is = by (bytes_eq (bytes_at text t.span) (codes "Name:")) refl is
  where
    by : (b : Bool) → bytes_eq (bytes_at text t.span) (codes "Name:") ≡ b → IsAtName (cond b (AtName c) (AtToken (context_behind c t.kind (bytes_at text t.span)))) → t.line ≡ line_of text t.span.end
    by true e same =
        let none : feeds (between text t.span.start t.span.end) ≡ 0 = ap feeds (same_word (bytes_at text t.span) (codes "Name:") e) in
        omega (arith, none, feeds_between text t.span.start t.span.end next.order.1, next.line, line_is t.kind text t.span.start ne)
    by false e same = absurd same

pub names_in : (text : List ℕ) {place : Place} {at line last : ℕ} {tokens : List Token} → TokensFrom text place at line tokens last → (IsAtName place → line ≡ line_of text at) → NamesEndLines tokens
names_in text (ends t next end same) on = tt
names_in text (token {c} {at} {line} {tokens = tokens} t next ne more) on =
    names_on line t.line (token_at text c t) tokens (no_name c (is_called text t.span.end) t.kind (bytes_at text t.span) tokens (names_in text more (λ is. head_line text c at t next ne is)))
names_in text (name {c} {at} {line} {last} {found = found} {tokens = tokens} is more) on =
    let here : line ≡ line_of text at = on tt in
    let new : EndsLine tokens = begins_lines text (behind_name c) (at + length (rest_of_line text at)) line tokens last (AtToken (behind_name c)) refl more
    (λ o t next ne. let after = token_later o text at t next ne in omega (arith, here, after)) (λ bad is_bad. let after = bad_later text at bad is_bad in omega (arith, here, after)) in
    subst (λ (f : Token). NamesEndLines (f ∷ tokens)) (sym is.2) (new, names_in text more (λ wrong. absurd wrong))
names_in text (bad_token {line = line} {last = last} bad) on = names_on line last Bad [] tt
names_in text (bad_name bad) on = tt

pub text_begins : (text : List ℕ) (tokens : List Token) (last : ℕ) → AreTokens text tokens last → EndsLine tokens
text_begins text tokens last are =
    begins_lines text at_start 0 0 tokens last (AtToken at_start) refl are
    (λ o t next ne. omega (arith, next.line, line_is t.kind text t.span.start ne)) (λ bad is_bad. omega (arith, is_bad.line_is))

-- ---- tokens of texts

of_word : (fact : Option BitFact) (opcode : Bool) (bytes : List ℕ) → IsOfText (word_of fact opcode bytes)
of_word (Some fact) opcode bytes = tt
of_word None true bytes = tt
of_word None false bytes = tt

of_kind : (c : Context) (called : Bool) (kind : RuleKind) (bytes : List ℕ) → IsOfText (token_of c called kind bytes)
of_kind c called kinds.End bytes = tt
of_kind c called kinds.Other bytes = tt
of_kind c called kinds.Head bytes = tt
of_kind c called kinds.Register bytes = tt
of_kind c called kinds.Word bytes = of_word (fact_in c.version bytes) (is_opcode c called bytes) bytes
of_kind c called kinds.Number bytes = tt
of_kind c called kinds.Arrow bytes = tt
of_kind c called kinds.Mark bytes = tt

of_text_on : (before line : ℕ) (t : Token) (tokens : List Token) → AreOfText (t ∷ tokens) → AreOfText (token_on before line t tokens)
of_text_on before line t tokens are = by (eqb line before)
  where
    by : (b : Bool) → AreOfText (cond b (t ∷ tokens) (Line line ∷ t ∷ tokens))
    by true = are
    by false = (tt, are)

pub of_text : (text : List ℕ) {place : Place} {at line last : ℕ} {tokens : List Token} → TokensFrom text place at line tokens last → AreOfText tokens
of_text text (ends t next end same) = tt
of_text text (token {c} {line = line} {tokens = tokens} t next ne more) = of_text_on line t.line (token_at text c t) tokens (of_kind c (is_called text t.span.end) t.kind (bytes_at text t.span), of_text text more)
of_text text (name {found = found} {tokens = tokens} is more) = subst (λ (f : Token). AreOfText (f ∷ tokens)) (sym is.2) (tt, of_text text more)
of_text text (bad_token {line = line} {last = last} bad) = of_text_on line last Bad [] (tt, tt)
of_text text (bad_name bad) = (tt, tt)

-- ---- numbers of texts

-- a number isn't written `hasOneUse`, and no number of a text is
abbrev pub IsProper : Token → Type 0
IsProper (Number text) = text ≡ codes "hasOneUse" → ⊥
IsProper t = Unit {0}

abbrev pub AreProper : List Token → Type 0
AreProper [] = Unit {0}
AreProper (t ∷ tokens) = IsProper t × AreProper tokens

word_kind : (operator : Bool) (rest : List ℕ) → kind_of operator (codes "hasOneUse") rest ≡ Some kinds.Word
unfolding kind_of is_mark is_placed_operator is_unsigned_operator is_remainder is_register is_rule_word is_literal is_negative is_letter is_digit is_word_byte
word_kind true rest = refl
word_kind false rest = refl

proper_word : (fact : Option BitFact) (opcode : Bool) (bytes : List ℕ) → IsProper (word_of fact opcode bytes)
proper_word (Some fact) opcode bytes = tt
proper_word None true bytes = tt
proper_word None false bytes = tt

proper_kind : (c : Context) (called operator : Bool) (text : List ℕ) (kind : RuleKind) (n : ℕ) → Begins operator text kind n → IsProper (token_of c called kind (take n text))
proper_kind c called operator text kinds.Number n is = λ same.
    let found = sym is.of_kind ∙ ap (λ (bytes : List ℕ). kind_of operator bytes (drop n text)) same ∙ word_kind operator (drop n text) in absurd cc
proper_kind c called operator text kinds.Word n is = proper_word (fact_in c.version (take n text)) (is_opcode c called (take n text)) (take n text)
proper_kind c called operator text kinds.End n is = tt
proper_kind c called operator text kinds.Other n is = tt
proper_kind c called operator text kinds.Head n is = tt
proper_kind c called operator text kinds.Register n is = tt
proper_kind c called operator text kinds.Arrow n is = tt
proper_kind c called operator text kinds.Mark n is = tt

proper_on : (before line : ℕ) (t : Token) (tokens : List Token) → AreProper (t ∷ tokens) → AreProper (token_on before line t tokens)
proper_on before line t tokens are = by (eqb line before)
  where
    by : (b : Bool) → AreProper (cond b (t ∷ tokens) (Line line ∷ t ∷ tokens))
    by true = are
    by false = (tt, are)

pub proper : (text : List ℕ) {place : Place} {at line last : ℕ} {tokens : List Token} → TokensFrom text place at line tokens last → AreProper tokens
proper text (ends t next end same) = tt
proper text (token {c} {at} {line} {tokens = tokens} t next ne more) =
    proper_on line t.line (token_at text c t) tokens (proper_kind c (is_called text t.span.end) (in_operator_place c.operator (between text at t.span.start)) (drop t.span.start text) t.kind (t.span.end - t.span.start) next.token, proper text more)
proper text (name {found = found} {tokens = tokens} is more) = subst (λ (f : Token). AreProper (f ∷ tokens)) (sym is.2) (tt, proper text more)
proper text (bad_token {line = line} {last = last} bad) = proper_on line last Bad [] (tt, tt)
proper text (bad_name bad) = (tt, tt)

-- ---- up to the limit

pub limited_begins : (room : ℕ) (begins : Bool) (tokens : List Token) → EndsLine tokens → EndsLine (limited_to room begins tokens)
unfolding limited_to
limited_begins room begins [] new = tt
limited_begins room begins (Line number ∷ tokens) new = tt
limited_begins room begins tokens new = absurd new

cut_off : (t : Token) (found : Option ℕ) (others : ℕ → List Token) → ((left : ℕ) → NamesEndLines (others left)) → ((tokens : List Token) → NamesEndLines tokens → NamesEndLines (t ∷ tokens)) → NamesEndLines (or_excess t found others)
cut_off t None others n add = add (Excess ∷ []) tt
cut_off t (Some left) others n add = add (others left) (n left)

pub limited_names : (room : ℕ) (begins : Bool) (tokens : List Token) → NamesEndLines tokens → NamesEndLines (limited_to room begins tokens)
unfolding limited_to
limited_names room begins [] n = tt
limited_names room begins (Name text ∷ tokens) n = (limited_begins room false tokens n.0, limited_names room false tokens n.1)
limited_names room begins (Line number ∷ tokens) n = limited_names room true tokens n
limited_names room begins (Head text ∷ tokens) n = cut_off (Head text) (room_behind room begins (Head text)) (λ left. limited_to left false tokens) (λ left. limited_names left false tokens n) (λ ts m. m)
limited_names room begins (Register text ∷ tokens) n = cut_off (Register text) (room_behind room begins (Register text)) (λ left. limited_to left false tokens) (λ left. limited_names left false tokens n) (λ ts m. m)
limited_names room begins (Word text ∷ tokens) n = cut_off (Word text) (room_behind room begins (Word text)) (λ left. limited_to left false tokens) (λ left. limited_names left false tokens n) (λ ts m. m)
limited_names room begins (Opcode text ∷ tokens) n = limited_names room false tokens n
limited_names room begins (Fact fact ∷ tokens) n = cut_off (Fact fact) (room_behind room begins (Fact fact)) (λ left. limited_to left false tokens) (λ left. limited_names left false tokens n) (λ ts m. m)
limited_names room begins (Number text ∷ tokens) n = cut_off (Number text) (room_behind room begins (Number text)) (λ left. limited_to left false tokens) (λ left. limited_names left false tokens n) (λ ts m. m)
limited_names room begins (Mark text ∷ tokens) n = cut_off (Mark text) (room_behind room begins (Mark text)) (λ left. limited_to left false tokens) (λ left. limited_names left false tokens n) (λ ts m. m)
limited_names room begins (first ∷ tokens) n = limited_names room false tokens n
