-- There is at most one token, or one fault, behind the gap at a place.
use Rattle.scan.proofs.Common.{◌≡◌, ◌≢◌, ℕ, zero, suc, ◌+◌, ◌-◌, ◌<◌, ◌≤◌, Bool, true, false, cond, eqb, leb, not, ◌&&◌, ◌||◌, List, [], ◌∷◌, ◌++◌, Option, Some, None, Ok, Err, length, take, drop, refl, sym, ap, subst, ◌∙◌, ⊎_elim, ◌⊎◌, inl, inr, arith, codes, bytes_eq, list_all, false≢true, eqb-true, leb-true, leb-false, bytes_eq-Decides, append-nil, nil_from_length, take-append-drop, drop-drop, length-drop, RuleToken, BadByte, RuleKind, Head, Arrow, is_blank, is_space, is_printable, is_bad, is_digit, is_letter, is_run, is_run_behind, begins_with, is_register_byte, is_word_byte, IsGap, IsLastGap, between, line_of, in_gap, behind_gap, is_among, heads, arrows, is_mark, is_placed_operator, is_unsigned_operator, is_remainder, is_rule_word, is_negative, is_literal, kind_of, in_operator_place, IsNextRuleToken, IsBadNext, OneTokenAtAPlace}
use Rattle.scan.specs.declared.rule_token.RuleKind.TheVariants.{End, Other, Register, Word, Number, Mark}
use Rattle.scan.specs.RuleTokens.{marks, is_register, IsLongestToken, BeginsNoToken, Begins, IsGapBefore, line_at}
use Rattle.scan.proofs.Fronts.{which, and_left, and_right, or_true}
use Rattle.scan.proofs.GapLemmas.{gap_skipped, last_gap_skipped}
use Rattle.scan.proofs.PlaceLemmas.{end_or_not}

-- ---- the first byte of a token is valid and in no gap

unfoldable pub is_good : ℕ → Bool
is_good b = not (is_bad b || in_gap b)

pub among_begins : (p : ℕ → Bool) (words : List (List ℕ)) (bytes : List ℕ) → list_all (begins_with p) words ≡ true → is_among words bytes ≡ true → begins_with p bytes ≡ true
among_begins p [] bytes all e = absurd (false≢true e)
among_begins p (word ∷ words) bytes all e = ⊎_elim
    (λ (h : bytes_eq bytes word ≡ true). ap (begins_with p) ((bytes_eq-Decides bytes word).0 h) ∙ and_left (begins_with p word) (list_all (begins_with p) words) all)
    (λ (h : bytes_eq bytes word ≡ false). among_begins p words bytes (and_right (begins_with p word) (list_all (begins_with p) words) all) (rw h at e))
    (which (bytes_eq bytes word))

eqb-from : (a b : ℕ) → a ≢ b → eqb a b ≡ false
eqb-from a b h = ⊎_elim (λ (e : eqb a b ≡ true). absurd (h (eqb-true a b e))) (λ (e : eqb a b ≡ false). e) (which (eqb a b))

leb-from : (a b : ℕ) → a ≤ b → leb a b ≡ true
leb-from a b h = ⊎_elim (λ (e : leb a b ≡ true). e) (λ (e : leb a b ≡ false). absurd (let lt : b < a = leb-false a b e in omega arith)) (which (leb a b))

good_from : (b : ℕ) → 48 ≤ b → b ≤ 122 → eqb b 59 ≡ false → is_good b ≡ true
unfolding is_good is_bad is_printable is_space is_blank
good_from b low high e =
    let a1 : leb 32 b ≡ true = leb-from 32 b (omega arith) in
    let a2 : leb b 126 ≡ true = leb-from b 126 (omega arith) in
    let a3 : eqb b 32 ≡ false = eqb-from b 32 (omega arith) in
    let a4 : eqb b 9 ≡ false = eqb-from b 9 (omega arith) in
    let a5 : eqb b 13 ≡ false = eqb-from b 13 (omega arith) in
    let a6 : eqb b 10 ≡ false = eqb-from b 10 (omega arith) in
    rw (a1, a2, a3, a4, a5, a6, e) refl

pub letter_good : (b : ℕ) → is_letter b ≡ true → is_good b ≡ true
unfolding is_letter
letter_good b e = ⊎_elim
    (λ (h : (leb 65 b && leb b 90) ≡ true).
    let low : 65 ≤ b = leb-true 65 b (and_left (leb 65 b) (leb b 90) h) in
    let high : b ≤ 90 = leb-true b 90 (and_right (leb 65 b) (leb b 90) h) in
    good_from b (omega arith) (omega arith) (eqb-from b 59 (omega arith)))
    (λ (h : (leb 97 b && leb b 122) ≡ true).
    let low : 97 ≤ b = leb-true 97 b (and_left (leb 97 b) (leb b 122) h) in
    let high : b ≤ 122 = leb-true b 122 (and_right (leb 97 b) (leb b 122) h) in
    good_from b (omega arith) (omega arith) (eqb-from b 59 (omega arith)))
    (or_true (leb 65 b && leb b 90) (leb 97 b && leb b 122) e)

pub digit_good : (b : ℕ) → is_digit b ≡ true → is_good b ≡ true
unfolding is_digit
digit_good b e =
    let low : 48 ≤ b = leb-true 48 b (and_left (leb 48 b) (leb b 57) e) in
    let high : b ≤ 57 = leb-true b 57 (and_right (leb 48 b) (leb b 57) e) in
    good_from b (omega arith) (omega arith) (eqb-from b 59 (omega arith))

pub run_good : (p : ℕ → Bool) (text : List ℕ) → ((b : ℕ) → p b ≡ true → is_good b ≡ true) → begins_with p text ≡ true → begins_with is_good text ≡ true
run_good p [] good e = absurd (false≢true e)
run_good p (b ∷ text) good e = good b e

pub marked_good : (c : ℕ) (p : ℕ → Bool) (text : List ℕ) → is_good c ≡ true → is_run_behind c p text ≡ true → begins_with is_good text ≡ true
marked_good c p [] good e = absurd (false≢true e)
marked_good c p (b ∷ text) good e = ap is_good (eqb-true b c (and_left (eqb b c) (is_run p text) e)) ∙ good

mark_good : (operator : Bool) (bytes rest : List ℕ) → is_mark operator bytes rest ≡ true → begins_with is_good bytes ≡ true
unfolding is_good is_mark is_placed_operator is_unsigned_operator is_remainder is_bad is_printable is_space is_blank
mark_good operator bytes rest e = ⊎_elim
    (λ (h : is_among marks bytes ≡ true). among_begins is_good marks bytes refl h)
    (λ (h : (operator && is_placed_operator bytes rest) ≡ true). ⊎_elim
    (λ (k : is_unsigned_operator bytes rest ≡ true). among_begins is_good (codes "/u" ∷ codes "%u" ∷ []) bytes refl (and_left (is_among (codes "/u" ∷ codes "%u" ∷ []) bytes) _ k))
    (λ (k : is_remainder bytes rest ≡ true). among_begins is_good (codes "%" ∷ []) bytes refl (and_left (is_among (codes "%" ∷ []) bytes) _ k))
    (or_true (is_unsigned_operator bytes rest) (is_remainder bytes rest) (and_right operator (is_placed_operator bytes rest) h)))
    (or_true (is_among marks bytes) (operator && is_placed_operator bytes rest) e)

literal_good : (operator : Bool) (bytes : List ℕ) → is_literal operator bytes ≡ true → begins_with is_good bytes ≡ true
unfolding is_literal is_negative is_good is_bad is_printable is_space is_blank
literal_good operator bytes e = ⊎_elim
    (λ (h : is_run is_digit bytes ≡ true). run_good is_digit bytes digit_good (and_left (begins_with is_digit bytes) (list_all is_digit bytes) h))
    (λ (h : (not operator && is_negative bytes) ≡ true). marked_good 45 is_digit bytes refl (and_right (not operator) (is_negative bytes) h))
    (or_true (is_run is_digit bytes) (not operator && is_negative bytes) e)

picked : (b : Bool) (k : RuleKind) (others : Option RuleKind) (P : Type 0) → (b ≡ true → P) → (others ≢ None → P) → cond b (Some k) others ≢ None → P
picked true k others P p q some = p refl
picked false k others P p q some = q some

token_good : (operator : Bool) (bytes rest : List ℕ) → kind_of operator bytes rest ≢ None → begins_with is_good bytes ≡ true
unfolding kind_of is_register is_rule_word is_good is_bad is_printable is_space is_blank
token_good operator bytes rest =
    picked (is_mark operator bytes rest) Mark _ _ (mark_good operator bytes rest)
    (picked (is_among heads bytes) Head _ _ (among_begins is_good heads bytes refl)
    (picked (is_among arrows bytes) Arrow _ _ (among_begins is_good arrows bytes refl)
    (picked (is_register bytes) Register _ _ (marked_good 37 is_register_byte bytes refl)
    (picked (is_rule_word bytes) Word _ _ (λ e. run_good is_letter bytes letter_good (and_left (begins_with is_letter bytes) (list_all is_word_byte bytes) e))
    (picked (is_literal operator bytes) Number _ _ (literal_good operator bytes) (λ none. absurd (none refl)))))))

-- ---- what stands behind the gap

pub good_front : (p : ℕ → Bool) (text : List ℕ) (n : ℕ) → begins_with p (take n text) ≡ true → begins_with p text ≡ true
good_front p text zero e = absurd (false≢true e)
good_front p [] (suc n) e = absurd (false≢true e)
good_front p (b ∷ text) (suc n) e = e

-- a token, or a byte that begins none, or the end
abbrev IsSeen : Bool → List ℕ → RuleKind → ℕ → Type 0
IsSeen operator text kind n = IsLongestToken operator text kind n ⊎ (((kind ≡ Other) × BeginsNoToken operator text × (n ≡ 1)) ⊎ ((kind ≡ End) × (text ≡ []) × (n ≡ 0)))

seen : (operator : Bool) (text : List ℕ) (kind : RuleKind) (n : ℕ) → Begins operator text kind n → IsSeen operator text kind n
seen operator text End n h = inr (inr (refl, h.0, h.1))
seen operator text Other n h = inr (inl (refl, h.0, h.1))
seen operator text Head n h = inl h
seen operator text Register n h = inl h
seen operator text Word n h = inl h
seen operator text Number n h = inl h
seen operator text Arrow n h = inl h
seen operator text Mark n h = inl h

some_kind : (o : Option RuleKind) (kind : RuleKind) → o ≡ Some kind → o ≢ None
some_kind None kind e = absurd cc
some_kind (Some k) kind e = λ none. cc

longest_good : (operator : Bool) (text : List ℕ) (kind : RuleKind) (n : ℕ) → IsLongestToken operator text kind n → begins_with is_good text ≡ true
longest_good operator text kind n h = good_front is_good text n (token_good operator (take n text) (drop n text) (some_kind (kind_of operator (take n text) (drop n text)) kind h.of_kind))

-- the end of a gap from the place on, behind which no gap begins, is the one that the text determines
pub starts : (text : List ℕ) (place start : ℕ) → place ≤ start → start ≤ length text → begins_with in_gap (drop start text) ≡ false → (IsGap (between text place start) ⊎ (IsLastGap (between text place start) × (drop start text ≡ []))) → behind_gap false (drop place text) ≡ drop start text
starts text place start order within whole gap =
    let there : start ≡ place + (start - place) = omega arith in
    let split : drop place text ≡ between text place start ++ drop start text =
    sym (take-append-drop (start - place) (drop place text)) ∙ ap (λ (rest : List ℕ). between text place start ++ rest) (drop-drop (start - place) place text ∙ ap (λ (n : ℕ). drop n text) (sym there)) in
    ⊎_elim
    (λ (g : IsGap (between text place start)). ap (behind_gap false) split ∙ gap_skipped g (drop start text) ∙ kept (drop start text) whole)
    (λ (g : IsLastGap (between text place start) × (drop start text ≡ [])).
    ap (behind_gap false) (split ∙ ap (λ (rest : List ℕ). between text place start ++ rest) g.1 ∙ append-nil (between text place start)) ∙ last_gap_skipped (between text place start) g.0 ∙ sym g.1)
    gap
  where
    kept : (rest : List ℕ) → begins_with in_gap rest ≡ false → behind_gap false rest ≡ rest
    kept [] e = refl
    kept (b ∷ rest) e = ⊎_elim
        (λ (h : is_space b ≡ true). absurd (false≢true (sym e ∙ ap (λ (t : Bool). t || eqb b 59) h)))
        (λ (h : is_space b ≡ false). ⊎_elim
        (λ (k : eqb b 59 ≡ true). absurd (false≢true (sym e ∙ rw (h, k) refl)))
        (λ (k : eqb b 59 ≡ false). rw (k, h) refl)
        (which (eqb b 59)))
        (which (is_space b))

-- two places with the same text behind them are the same
same_place : (text : List ℕ) (a b : ℕ) → a ≤ length text → b ≤ length text → drop a text ≡ drop b text → a ≡ b
same_place text a b h k e = omega (arith, ap length e, length-drop a text, length-drop b text)

-- start is the place behind the gap from the place on
pub record Stood (text : List ℕ) (place start : ℕ) : Type 0 where
  pub within : start ≤ length text
  pub behind : behind_gap false (drop place text) ≡ drop start text

pub one_start : (text : List ℕ) (place a b : ℕ) → Stood text place a → Stood text place b → a ≡ b
one_start text place a b h k = same_place text a b h.within k.within (sym h.behind ∙ k.behind)

pub good_is : (text : List ℕ) → begins_with is_good text ≡ true → (begins_with in_gap text ≡ false) × (begins_with is_bad text ≡ false)
unfolding is_good
good_is [] e = absurd (false≢true e)
good_is (b ∷ text) e = (no_gap (is_bad b) (in_gap b) e, not_bad (is_bad b) (in_gap b) e)
  where
    no_gap : (x y : Bool) → not (x || y) ≡ true → y ≡ false
    no_gap true y e = absurd (false≢true e)
    no_gap false true e = absurd (false≢true e)
    no_gap false false e = refl

    not_bad : (x y : Bool) → not (x || y) ≡ true → x ≡ false
    not_bad true y e = absurd (false≢true e)
    not_bad false y e = refl

-- what stands at the end, and what stands elsewhere
seen_good : (operator : Bool) (text : List ℕ) (kind : RuleKind) (n : ℕ) → Begins operator text kind n → (begins_with is_good text ≡ true) ⊎ ((kind ≡ End) × (text ≡ []))
unfolding is_good
seen_good operator text kind n h = ⊎_elim
    (λ (t : IsLongestToken operator text kind n). inl (longest_good operator text kind n t))
    (λ (o : ((kind ≡ Other) × BeginsNoToken operator text × (n ≡ 1)) ⊎ ((kind ≡ End) × (text ≡ []) × (n ≡ 0))). ⊎_elim
    (λ (x : (kind ≡ Other) × BeginsNoToken operator text × (n ≡ 1)). inl (x.1.visible))
    (λ (x : (kind ≡ End) × (text ≡ []) × (n ≡ 0)). inr (x.0, x.1))
    o)
    (seen operator text kind n h)

gap_of : (kind : RuleKind) (gap : List ℕ) → IsGapBefore kind gap → IsGap gap ⊎ (IsLastGap gap × (kind ≡ End))
gap_of End gap h = inr (h, refl)
gap_of Other gap h = inl h
gap_of Head gap h = inl h
gap_of Register gap h = inl h
gap_of Word gap h = inl h
gap_of Number gap h = inl h
gap_of Arrow gap h = inl h
gap_of Mark gap h = inl h

end_is : (operator : Bool) (text : List ℕ) (kind : RuleKind) (n : ℕ) → Begins operator text kind n → kind ≡ End → text ≡ []
end_is operator text kind n h e = ⊎_elim
    (λ (a : (kind ≢ End) × (0 < length text)). absurd (a.0 e))
    (λ (a : (kind ≡ End) × (length text ≡ 0)). nil_from_length text a.1)
    (end_or_not operator text kind n h)

stood_token : (operator : Bool) (text : List ℕ) (place : ℕ) (t : RuleToken) → IsNextRuleToken operator text place t → Stood text place t.span.start
stood_token operator text place t h =
    let within : t.span.start ≤ length text = omega (arith, h.order.1, h.order.2) in
    record {
      within = within;
      behind = starts text place t.span.start h.order.0 within
          (⊎_elim
          (λ (g : begins_with is_good (drop t.span.start text) ≡ true). (good_is (drop t.span.start text) g).0)
          (λ (e : (t.kind ≡ End) × (drop t.span.start text ≡ [])). ap (begins_with in_gap) e.1)
          (seen_good (in_operator_place operator (between text place t.span.start)) (drop t.span.start text) t.kind (t.span.end - t.span.start) h.token))
          (⊎_elim
          (λ (g : IsGap (between text place t.span.start)). inl g)
          (λ (g : IsLastGap (between text place t.span.start) × (t.kind ≡ End)). inr (g.0, end_is (in_operator_place operator (between text place t.span.start)) (drop t.span.start text) t.kind (t.span.end - t.span.start) h.token g.1))
          (gap_of t.kind (between text place t.span.start) h.gap));
    }

bad_there : (text : List ℕ) → begins_with is_bad text ≡ true → 0 < length text
bad_there [] e = absurd (false≢true e)
bad_there (b ∷ text) e = omega arith

bad_of_space : (b : ℕ) → is_space b ≡ true → is_bad b ≡ false
unfolding is_bad
bad_of_space b s = ap (λ (x : Bool). not (is_printable b || x)) s ∙ always (is_printable b)
  where
    always : (x : Bool) → not (x || true) ≡ false
    always true = refl
    always false = refl

pub bad_no_gap : (text : List ℕ) → begins_with is_bad text ≡ true → begins_with in_gap text ≡ false
unfolding is_bad is_printable is_space is_blank
bad_no_gap [] e = refl
bad_no_gap (b ∷ text) e = ⊎_elim
    (λ (h : in_gap b ≡ true). absurd (⊎_elim
    (λ (s : is_space b ≡ true). false≢true (sym (bad_of_space b s) ∙ e))
    (λ (s : eqb b 59 ≡ true). false≢true (sym (ap is_bad (eqb-true b 59 s)) ∙ e))
    (or_true (is_space b) (eqb b 59) h)))
    (λ (h : in_gap b ≡ false). h)
    (which (in_gap b))

stood_bad : (text : List ℕ) (place line : ℕ) (h : IsBadNext text place line) → Stood text place h.start
stood_bad text place line h =
    let some : 0 < length (drop h.start text) = bad_there (drop h.start text) h.bad in
    let within : h.start ≤ length text = omega (arith, length-drop h.start text) in
    record { within = within; behind = starts text place h.start h.order within (bad_no_gap (drop h.start text) h.bad) (inl h.gap) }

one_kind : (o : Option RuleKind) (a b : RuleKind) → o ≡ Some a → o ≡ Some b → a ≡ b
one_kind None a b e f = absurd cc
one_kind (Some k) a b e f = cc

-- there is only one thing that a text begins with
begins_one : (operator : Bool) (text : List ℕ) (a b : RuleKind) (n m : ℕ) → Begins operator text a n → Begins operator text b m → (a ≡ b) × (n ≡ m)
begins_one operator text a b n m h k = ⊎_elim
    (λ (s : IsLongestToken operator text a n). ⊎_elim
    (λ (t : IsLongestToken operator text b m). longest_one s t)
    (λ (t : ((b ≡ Other) × BeginsNoToken operator text × (m ≡ 1)) ⊎ ((b ≡ End) × (text ≡ []) × (m ≡ 0))). absurd (not_longest a n s b m t))
    (seen operator text b m k))
    (λ (s : ((a ≡ Other) × BeginsNoToken operator text × (n ≡ 1)) ⊎ ((a ≡ End) × (text ≡ []) × (n ≡ 0))). ⊎_elim
    (λ (t : IsLongestToken operator text b m). absurd (not_longest b m t a n s))
    (λ (t : ((b ≡ Other) × BeginsNoToken operator text × (m ≡ 1)) ⊎ ((b ≡ End) × (text ≡ []) × (m ≡ 0))). others s t)
    (seen operator text b m k))
    (seen operator text a n h)
  where
    longest_one : IsLongestToken operator text a n → IsLongestToken operator text b m → (a ≡ b) × (n ≡ m)
    longest_one s t =
        let le : n ≤ m = t.longest n s.within (some_kind (kind_of operator (take n text) (drop n text)) a s.of_kind) in
        let ge : m ≤ n = s.longest m t.within (some_kind (kind_of operator (take m text) (drop m text)) b t.of_kind) in
        let same : n ≡ m = omega arith in
        (one_kind (kind_of operator (take m text) (drop m text)) a b (subst (λ (i : ℕ). kind_of operator (take i text) (drop i text) ≡ Some a) same s.of_kind) t.of_kind, same)

    not_longest : (c : RuleKind) (i : ℕ) → IsLongestToken operator text c i → (d : RuleKind) (j : ℕ) → ((d ≡ Other) × BeginsNoToken operator text × (j ≡ 1)) ⊎ ((d ≡ End) × (text ≡ []) × (j ≡ 0)) → ⊥
    not_longest c i s d j (inl t) = some_kind (kind_of operator (take i text) (drop i text)) c s.of_kind (t.1.no_token i s.within)
    not_longest c i s d j (inr t) = false≢true (sym (ap (begins_with is_good) t.1) ∙ longest_good operator text c i s)

    others : ((a ≡ Other) × BeginsNoToken operator text × (n ≡ 1)) ⊎ ((a ≡ End) × (text ≡ []) × (n ≡ 0)) → ((b ≡ Other) × BeginsNoToken operator text × (m ≡ 1)) ⊎ ((b ≡ End) × (text ≡ []) × (m ≡ 0)) → (a ≡ b) × (n ≡ m)
    others (inl s) (inl t) = (s.0 ∙ sym t.0, s.2 ∙ sym t.2)
    others (inr s) (inr t) = (s.0 ∙ sym t.0, s.2 ∙ sym t.2)
    others (inl s) (inr t) = absurd (false≢true (sym (ap (begins_with _) t.1) ∙ s.1.visible))
    others (inr s) (inl t) = absurd (false≢true (sym (ap (begins_with _) s.1) ∙ t.1.visible))

abbrev token_of : RuleKind → ℕ → ℕ → ℕ → RuleToken
token_of kind line start end = record { kind = kind; line = line; span = record { start = start; end = end } }

abbrev pub bad_on : ℕ → BadByte
bad_on line = record { line = line }

same_token : (t u : RuleToken) → t.kind ≡ u.kind → t.line ≡ u.line → t.span.start ≡ u.span.start → t.span.end ≡ u.span.end → t ≡ u
same_token t u k l s e =
    ap (λ (x : RuleKind). token_of x t.line t.span.start t.span.end) k ∙ ap (λ (x : ℕ). token_of u.kind x t.span.start t.span.end) l
    ∙ ap (λ (x : ℕ). token_of u.kind u.line x t.span.end) s ∙ ap (λ (x : ℕ). token_of u.kind u.line u.span.start x) e

-- a token and an invalid byte can't both stand there
not_both : (operator : Bool) (text : List ℕ) (place : ℕ) (t : RuleToken) (line : ℕ) → IsNextRuleToken operator text place t → IsBadNext text place line → ⊥
not_both operator text place t line h k =
    let start : t.span.start ≡ k.start = one_start text place t.span.start k.start (stood_token operator text place t h) (stood_bad text place line k) in
    let bad : begins_with is_bad (drop t.span.start text) ≡ true = subst (λ (i : ℕ). begins_with is_bad (drop i text) ≡ true) (sym start) k.bad in
    ⊎_elim
    (λ (g : begins_with is_good (drop t.span.start text) ≡ true). false≢true (sym (good_is (drop t.span.start text) g).1 ∙ bad))
    (λ (e : (t.kind ≡ End) × (drop t.span.start text ≡ [])). false≢true (sym (ap (begins_with is_bad) e.1) ∙ bad))
    (seen_good (in_operator_place operator (between text place t.span.start)) (drop t.span.start text) t.kind (t.span.end - t.span.start) h.token)

pub one_token : OneTokenAtAPlace
one_token operator text place (Ok t) (Ok u) within h k = ap Ok (same_tokens t u h k)
  where
    same_tokens : (t u : RuleToken) → IsNextRuleToken operator text place t → IsNextRuleToken operator text place u → t ≡ u
    same_tokens t u h k =
        let start : t.span.start ≡ u.span.start = one_start text place t.span.start u.span.start (stood_token operator text place t h) (stood_token operator text place u k) in
        let moved : Begins (in_operator_place operator (between text place t.span.start)) (drop t.span.start text) u.kind (u.span.end - u.span.start) = subst (λ (i : ℕ). Begins (in_operator_place operator (between text place i)) (drop i text) u.kind (u.span.end - u.span.start)) (sym start) k.token in
        let one : (t.kind ≡ u.kind) × (t.span.end - t.span.start ≡ u.span.end - u.span.start) = begins_one (in_operator_place operator (between text place t.span.start)) (drop t.span.start text) t.kind u.kind _ _ h.token moved in
        same_token t u one.0 (h.line ∙ ap (λ (k : RuleKind). line_at k text t.span.start) one.0 ∙ ap (line_at u.kind text) start ∙ sym k.line) start (omega (arith, one.1, h.order.1, k.order.1))
one_token operator text place (Ok t) (Err e) within h k = absurd (not_both operator text place t e.line h k)
one_token operator text place (Err e) (Ok t) within h k = absurd (not_both operator text place t e.line k h)
one_token operator text place (Err e) (Err f) within h k =
    ap Err (ap bad_on (h.line_is ∙ ap (line_of text) (one_start text place h.start k.start (stood_bad text place e.line h) (stood_bad text place f.line k)) ∙ sym k.line_is))
