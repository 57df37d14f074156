-- A kept line of a text is a kept line also as a text by itself.
use Rattle.ir_round_trip.proofs.Common.{◌≡◌, inl, inr, ℕ, zero, suc, ◌+◌, ◌-◌, ◌<◌, ◌≤◌, Bool, true, false, cond, not, eqb, ◌&&◌, ◌||◌, List, [], ◌∷◌, None, Some, length, take, drop, get_or, refl, sym, ap, subst, ◌∙◌, arith, codes, list_any, prefix_len, suffix_len, take_while, bytes_eq, drop-length, take-length, eqb-true, false≢true, append-nil, drop-drop, drop-take, get_or-take, length-drop, length-take-le, take-take, take_all, prefix_len-le-length, prefix_len_is, prefix_len_passes, suffix_len-take_no, suffix_len-take_yes, TokenKind, Span, is_blank, is_digit, nothing, HoldsZero, IsLongestToken, IsNextToken, spells, IsKeptLine, rest_to_feed, between, feeds, last_line, blanks_behind, is_negative, and_left, or_true, longest_some, feeds_append, Section, AtEntry, InHeader, InBody, HasExtent, IsTokenAt, itself, last, begins_kept, extent_of, is_on, kept_words, End, Kept, kept, IsKeptAlone, begun, in_line, line_stands, none_extends, end_is_next, IsKeptText}
use Rattle.scan.specs.declared.ir.token.TokenKind.TheVariants as kinds
use Rattle.scan.specs.declared.ir.token.Token.{Token as Scanned}
use Rattle.scan.specs.IrTokens.{is_number}
use Rattle.ir_tokens.specs.declared.place.Extent.TheVariants as extents
use Rattle.ir_tokens.specs.Order.{token}

-- ---- the blanks at the end of a line

-- one more byte, which is a blank or not
trimmed_more : (p : ℕ → Bool) (xs : List ℕ) (n : ℕ) → suc n ≤ length xs → suffix_len p (take (n - suffix_len p (take n xs)) xs) ≡ 0
    → (b : Bool) → p (get_or xs (suc n - 1) 0) ≡ b → suffix_len p (take (suc n - suffix_len p (take (suc n) xs)) xs) ≡ 0
trimmed_more p xs n within before true is =
    let one_less : suc n - 1 ≡ n = omega arith in
    let more : suffix_len p (take (suc n) xs) ≡ 1 + suffix_len p (take n xs) =
    suffix_len-take_yes p xs (suc n) 0 (omega arith) within is ∙ ap (λ (m : ℕ). 1 + suffix_len p (take m xs)) one_less in
    let left : suc n - suffix_len p (take (suc n) xs) ≡ n - suffix_len p (take n xs) = omega arith in
    ap (λ (m : ℕ). suffix_len p (take m xs)) left ∙ before
trimmed_more p xs n within before false is =
    let none : suffix_len p (take (suc n) xs) ≡ 0 = suffix_len-take_no p xs (suc n) 0 (omega arith) within is in
    let all : suc n - suffix_len p (take (suc n) xs) ≡ suc n = omega arith in
    ap (λ (m : ℕ). suffix_len p (take m xs)) all ∙ none

-- a text without the blanks at its end has none there
trimmed : (p : ℕ → Bool) (xs : List ℕ) (n : ℕ) → n ≤ length xs → suffix_len p (take (n - suffix_len p (take n xs)) xs) ≡ 0
trimmed p xs zero within = refl
trimmed p xs (suc n) within = trimmed_more p xs n within (trimmed p xs n (omega arith)) (p (get_or xs (suc n - 1) 0)) refl

-- ---- the first byte of a kept line

same_first : (b c : ℕ) (bs cs : List ℕ) → bytes_eq (b ∷ bs) (c ∷ cs) ≡ true → b ≡ c
same_first b c bs cs e = eqb-true b c (and_left (eqb b c) _ e)

-- a predicate that holds of each byte with which a kept line may begin holds of its first one
first_byte : (P : ℕ → Type 0) → P 33 → P 36 → P 97 → P 100 → P 115 → P 116 → (b : ℕ) (bs : List ℕ) → begins_kept (b ∷ bs) ≡ true → P b
unfolding begins_kept
first_byte P bang dollar a d s t b bs e = elim (or_true (list_any (bytes_eq (b ∷ bs)) kept_words) (eqb b 33 || eqb b 36) e) [
  | inl word ↦ elim (or_true (bytes_eq (b ∷ bs) (codes "source_filename")) _ word) [
    | inl is ↦ subst P (sym (same_first b 115 bs _ is)) s
    | inr more ↦ elim (or_true (bytes_eq (b ∷ bs) (codes "target")) _ more) [
      | inl is ↦ subst P (sym (same_first b 116 bs _ is)) t
      | inr more ↦ elim (or_true (bytes_eq (b ∷ bs) (codes "attributes")) _ more) [
        | inl is ↦ subst P (sym (same_first b 97 bs _ is)) a
        | inr more ↦ elim (or_true (bytes_eq (b ∷ bs) (codes "declare")) _ more) [
          | inl is ↦ subst P (sym (same_first b 100 bs _ is)) d
          | inr none ↦ absurd (false≢true none)
        ]
      ]
    ]
  ]
  | inr mark ↦ elim (or_true (eqb b 33) (eqb b 36) mark) [
    | inl is ↦ subst P (sym (eqb-true b 33 is)) bang
    | inr is ↦ subst P (sym (eqb-true b 36 is)) dollar
  ]
]

-- no number begins with it
no_number : (b : ℕ) (bs : List ℕ) → begins_kept (b ∷ bs) ≡ true → (cs rest : List ℕ) → is_number (b ∷ cs) rest ≡ false
unfolding is_number is_negative is_digit
no_number b bs e = first_byte (λ c. (cs rest : List ℕ) → is_number (c ∷ cs) rest ≡ false) (λ cs rest. refl) (λ cs rest. refl) (λ cs rest. refl) (λ cs rest. refl) (λ cs rest. refl) (λ cs rest. refl) b bs e

-- ---- the first token where the line is cut off

-- whether bytes are a token doesn't depend on what stands behind, unless they are a number
any_rest : (kind : TokenKind) (b : ℕ) (bs rest other : List ℕ) → ((cs rest : List ℕ) → is_number (b ∷ cs) rest ≡ false) → spells kind (b ∷ bs) rest ≡ true → spells kind (b ∷ bs) other ≡ true
any_rest kinds.End b bs rest other none e = e
any_rest kinds.Other b bs rest other none e = e
any_rest kinds.Label b bs rest other none e = e
any_rest kinds.Word b bs rest other none e = e
any_rest kinds.Number b bs rest other none e = absurd (false≢true (sym (none bs rest) ∙ e))
any_rest kinds.Register b bs rest other none e = e
any_rest kinds.Function b bs rest other none e = e
any_rest kinds.Group b bs rest other none e = e
any_rest kinds.Metadata b bs rest other none e = e
any_rest kinds.Quoted b bs rest other none e = e
any_rest kinds.Mark b bs rest other none e = e

module _ (b : ℕ) (s : List ℕ) (none : (cs rest : List ℕ) → is_number (b ∷ cs) rest ≡ false) (most : ℕ) (most_within : most ≤ length (b ∷ s)) where
  -- a prefix of a prefix
  front : (kind : TokenKind) (m : ℕ) (rest other : List ℕ) → m ≤ most → 0 < m → spells kind (take m (take most (b ∷ s))) rest ≡ true → spells kind (take m (b ∷ s)) other ≡ true
  front kind zero rest other within some e = absurd (omega arith)
  front kind (suc m) rest other within some e =
      any_rest kind b (take m s) rest other none (subst (λ bytes. spells kind bytes rest ≡ true) (take-take (suc m) most (b ∷ s) within) e)

  back : (kind : TokenKind) (m : ℕ) (rest other : List ℕ) → m ≤ most → 0 < m → spells kind (take m (b ∷ s)) rest ≡ true → spells kind (take m (take most (b ∷ s))) other ≡ true
  back kind zero rest other within some e = absurd (omega arith)
  back kind (suc m) rest other within some e =
      subst (λ bytes. spells kind bytes other ≡ true) (sym (take-take (suc m) most (b ∷ s) within)) (any_rest kind b (take m s) rest other none e)

  pub longest_in_front : (kind : TokenKind) (n : ℕ) → 0 < n → n ≤ most → IsLongestToken (b ∷ s) kind n → IsLongestToken (take most (b ∷ s)) kind n
  longest_in_front kind n some within t =
      let long : length (take most (b ∷ s)) ≡ most = length-take-le most (b ∷ s) most_within in
      record {
        within = omega arith;
        of_kind = back kind n (drop n (b ∷ s)) (drop n (take most (b ∷ s))) within some t.of_kind;
        longest = λ sort m le e. longest_of sort m (omega arith) e;
      }
    where
      longest_of : (sort : TokenKind) (m : ℕ) → m ≤ most → spells sort (take m (take most (b ∷ s))) (drop m (take most (b ∷ s))) ≡ true → m ≤ n
      longest_of sort zero le e = omega arith
      longest_of sort (suc m) le e = t.longest sort (suc m) (omega arith) (front sort (suc m) (drop (suc m) (take most (b ∷ s))) (drop (suc m) (b ∷ s)) le (omega arith) e)

-- ---- the rest of the line

-- a prefix of a run is a run
run_within : (p : ℕ → Bool) (text : List ℕ) (n : ℕ) → n ≤ prefix_len p text → take_while p (take n text) ≡ take n text
run_within p text n within =
    let some : prefix_len p text ≤ length text = prefix_len-le-length p text in
    let long : length (take n text) ≡ n = length-take-le n text (omega arith) in
    let all : prefix_len p (take n text) ≡ length (take n text) =
    prefix_len_is p (take n text) (length (take n text)) 0 (omega arith)
    (λ k lt. ap p (get_or-take n text k 0 (omega arith)) ∙ prefix_len_passes p text k 0 (omega arith)) (λ lt. absurd (omega arith)) in
    take_all (prefix_len p (take n text)) (take n text) (omega arith)

-- ---- a kept line as a text by itself

none_begins : begins_kept [] ≡ false
unfolding begins_kept
none_begins = refl

-- the line that begins with this token of n bytes, without the blanks at its end
kept_of : (text : List ℕ) (kind : TokenKind) (n more : ℕ) → IsLongestToken text kind n → begins_kept (take n text) ≡ true → ¬ HoldsZero (take n text)
    → more ≡ length (take_while in_line (drop n text)) - blanks_behind (take_while in_line (drop n text)) → IsKeptAlone (take (n + more) text)
kept_of [] kind n more t begins no_zero is = let some : 0 < n = longest_some [] kind n t in absurd (let none : n ≤ 0 = t.within in omega arith)
kept_of (b ∷ s) kind zero more t begins no_zero is = absurd (false≢true (sym none_begins ∙ begins))
kept_of (b ∷ s) kind (suc m) more t begins no_zero is =
    let n : ℕ = suc m in
    let text : List ℕ = b ∷ s in
    let rest : List ℕ = drop n text in
    let run : List ℕ = take_while in_line rest in
    let run_long : length run ≡ prefix_len in_line rest = length-take-le (prefix_len in_line rest) rest (prefix_len-le-length in_line rest) in
    let in_run : more ≤ prefix_len in_line rest = omega arith in
    let most_within : n + more ≤ length text = omega (arith, t.within, length-drop n text, prefix_len-le-length in_line rest) in
    let cut : drop n (take (n + more) text) ≡ take more rest = drop-take n more text in
    let first : take n (take (n + more) text) ≡ take n text = take-take n (n + more) text (omega arith) in
    let short : take more run ≡ take more rest = take-take more (prefix_len in_line rest) rest in_run in
    let no_blank : blanks_behind (take more rest) ≡ 0 =
    ap blanks_behind (sym short) ∙ ap (λ (i : ℕ). blanks_behind (take i run)) (is ∙ ap (λ (l : List ℕ). length run - blanks_behind l) (sym (take-length run))) ∙ trimmed is_blank run (length run) (omega arith) in
    record {
      kind = kind;
      n = n;
      longest = longest_in_front b s (no_number b (take m s) begins) (n + more) most_within kind n (omega arith) (omega arith) t;
      begins = ap begins_kept first ∙ begins;
      no_zero = λ holds. no_zero (subst HoldsZero first holds);
      in_line = ap (take_while in_line) cut ∙ run_within in_line rest more in_run ∙ sym cut;
      no_blanks = subst (λ l. length l - blanks_behind l ≡ length l) (sym cut) (omega (arith, no_blank));
    }

-- a kept line begins as one in every context
line_begins : (place : Section) (line : ℕ) (bytes : List ℕ) → extent_of place line bytes ≡ extents.Line → begins_kept bytes ≡ true
unfolding extent_of
line_begins (AtEntry before) line bytes e = by (begins_kept bytes) (not (is_on line before)) e
  where
    by : (b c : Bool) → cond (b && c) extents.Line extents.Itself ≡ extents.Line → b ≡ true
    by true c h = refl
    by false c h = absurd cc
line_begins (InHeader word) line bytes e = by (bytes_eq bytes (codes "(") && is_on line word) e
  where
    by : (b : Bool) → cond b extents.Group extents.Itself ≡ extents.Line → begins_kept bytes ≡ true
    by true h = absurd cc
    by false h = absurd cc
line_begins (InBody word) line bytes e = by (bytes_eq bytes (codes "(") && is_on line word) e
  where
    by : (b : Bool) → cond b extents.Group extents.Itself ≡ extents.Line → begins_kept bytes ≡ true
    by true h = absurd cc
    by false h = absurd cc

pub kept_alone : (text : List ℕ) (place : Section) (at : ℕ) (t : Scanned) (rest : Span) → IsNextToken text at t → HasExtent text place t extents.Line → IsKeptLine text t.span.end rest
    → IsKeptAlone (between text t.span.start rest.end)
kept_alone text place at t rest next extent kept =
    let start : ℕ = t.span.start in
    let end : ℕ = t.span.end in
    let n : ℕ = end - start in
    let line : List ℕ = rest_to_feed text end in
    let more : ℕ = length line - blanks_behind line in
    let begins = line_begins place t.line (between text start end) extent in
    let behind : drop n (drop start text) ≡ drop end text = drop-drop n start text ∙ ap (λ (i : ℕ). drop i text) (let there : start + n ≡ end = omega (arith, next.order.1) in there) in
    let alone : IsKeptAlone (take (n + more) (drop start text)) =
    kept_of (drop start text) t.kind n more (begun (drop start text) t.kind n next.token begins) begins next.no_zero
    (ap (λ (l : List ℕ). length (take_while in_line l) - blanks_behind (take_while in_line l)) (sym behind)) in
    subst (λ (i : ℕ). IsKeptAlone (take i (drop start text))) (let long : n + more ≡ rest.end - start = omega (arith, kept.end, next.order.1) in long) alone

-- ---- the tokens of a kept line

-- bytes that are no line feeds are on one line
not_a_feed : (bytes : List ℕ) (i : ℕ) → feeds bytes ≡ 0 → eqb (get_or bytes i 0) 10 ≡ false
not_a_feed [] i none = refl
not_a_feed (b ∷ bytes) zero none = by (eqb b 10) refl
  where
    by : (feed : Bool) → eqb b 10 ≡ feed → eqb b 10 ≡ false
    by true is = let one : feeds (b ∷ bytes) ≡ 1 + feeds bytes = feeds_append (b ∷ []) bytes ∙ rw is refl in absurd (omega arith)
    by false is = is
not_a_feed (b ∷ bytes) (suc i) none = not_a_feed bytes i (omega (arith, feeds_append (b ∷ []) bytes))

one_line : (bytes : List ℕ) → feeds bytes ≡ 0 → last_line bytes ≡ 1
one_line bytes none = rw (not_a_feed bytes (length bytes - 1) none, none) refl

pub kept_text : (bytes : List ℕ) → IsKeptAlone bytes → IsKeptText bytes
kept_text bytes alone =
    let none : feeds bytes ≡ 0 = kept bytes alone in
    let first : IsTokenAt bytes (AtEntry None) 0 (1, Kept bytes) (length bytes) =
    subst (IsTokenAt bytes (AtEntry None) 0 (1, Kept bytes)) (let long : 0 + 0 + length bytes ≡ length bytes = omega arith in long)
    (line_stands bytes [] [] [] bytes (AtEntry None) 1 alone (sym (append-nil bytes)) nothing refl refl refl) in
    let no_more : between bytes (length bytes) (length bytes + 0) ≡ [] =
    ap (take (length bytes + 0 - length bytes)) (drop-length bytes) ∙ take_all (length bytes + 0 - length bytes) [] (omega arith) in
    let end : IsTokenAt bytes (AtEntry (Some 1)) (length bytes) (last_line bytes, End) (length bytes + 0) =
    itself _ (end_is_next bytes bytes [] (sym (append-nil bytes)) (inl nothing)) (ap (extent_of (AtEntry (Some 1)) (last_line bytes)) no_more ∙ none_extends (AtEntry (Some 1)) (last_line bytes)) in
    token first refl (last (subst (λ (line : ℕ). IsTokenAt bytes (AtEntry (Some 1)) (length bytes) (line, End) (length bytes + 0)) (one_line bytes none) end) refl)
