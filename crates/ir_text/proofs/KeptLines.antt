-- A text that is exactly one kept line is a kept line also within another text.
use Rattle.ir_text.proofs.Common.{◌≡◌, ℕ, ◌+◌, ◌-◌, ◌<◌, ◌≤◌, Bool, true, false, cond, not, eqb, ◌&&◌, ◌||◌, List, [], ◌∷◌, ◌++◌, None, length, take, drop, take_while, refl, sym, ap, subst, ◌∙◌, ◌⊎◌, ⊎_elim, append_assoc, length-take, length-take-le, length-drop, take-append-drop, drop-drop, eqb-true, arith, prefix_len, false≢true, drop-append-le, take-append-le, take_all, take_while-cons, TokenKind, Span, begins_name, begins_with, begins_word, is_letter, is_name_byte, IsGap, Begins, BeginsNoToken, HoldsZero, IsLongestToken, IsNextToken, is_metadata, is_word, IsKeptLine, rest_to_feed, between, feeds, blanks_behind, is_among, and_both, and_left, or_true, which, among_begins, seen, run_within, Section, AtEntry, InHeader, InBody, AreTokens, HasExtent, IsTokenAt, TokensFrom, bad_byte, itself, kept_group, kept_line, last, token, unclosed, begins_kept, extent_of, kept_words, End, Kept, Placed, Token, token_of, goes_on, is_at_line_end, takes_line}
use Rattle.std.proofs.Common.{length-append}
use Rattle.scan.specs.declared.ir.token.TokenKind.TheVariants as kinds
use Rattle.scan.specs.declared.ir.token.Token.{Token as Scanned}
use Rattle.scan.proofs.PlaceLemmas.{begins_some as has_byte}
use Rattle.ir_tokens.specs.declared.place.Extent.TheVariants as extents
use Rattle.ir_text.proofs.Ending.{longest_within}
use Rattle.ir_text.proofs.Shapes.{feed_goes_not_on}
use Rattle.ir_text.proofs.Standing.{ahead_is, between_is, scanned_at, token_is_next}

-- ---- the bytes of a kept line

-- the byte is no line feed
abbrev pub in_line : ℕ → Bool
in_line b = not (eqb b 10)

-- the bytes are exactly one kept line: a first token with which kept lines begin, then bytes without a line feed, and
-- no blank at the end
pub record IsKeptAlone (bytes : List ℕ) : Type 0 where
  pub kind : TokenKind
  pub n : ℕ
  pub longest : IsLongestToken bytes kind n
  pub begins : begins_kept (take n bytes) ≡ true
  pub no_zero : ¬ HoldsZero (take n bytes)
  pub in_line : take_while in_line (drop n bytes) ≡ drop n bytes
  pub no_blanks : length (drop n bytes) - blanks_behind (drop n bytes) ≡ length (drop n bytes)

-- the first token of a text
first_is : {text : List ℕ} {place : Section} {at : ℕ} {tokens : List Placed} → TokensFrom text place at tokens → (t : Placed) (others : List Placed) → tokens ≡ t ∷ others → (end : ℕ) × IsTokenAt text place at t end
first_is {text} {place} {at} (last {end = end} {t = u} h e) t others same = (end, subst (λ (x : Placed). IsTokenAt text place at x end) (heads u t _ _ same) h)
  where
    heads : (a b : Placed) (xs ys : List Placed) → a ∷ xs ≡ b ∷ ys → a ≡ b
    heads a b xs ys e = cc
first_is {text} {place} {at} (token {end = end} {t = u} h e behind) t others same = (end, subst (λ (x : Placed). IsTokenAt text place at x end) (heads u t _ _ same) h)
  where
    heads : (a b : Placed) (xs ys : List Placed) → a ∷ xs ≡ b ∷ ys → a ≡ b
    heads a b xs ys e = cc

-- the bytes of a kept line, and none for another token
abbrev kept_bytes : Token → List ℕ
kept_bytes (Kept text) = text
kept_bytes rest = []

abbrev pub is_kept : Token → Bool
is_kept (Kept text) = true
is_kept rest = false

pub none_kept : (kind : TokenKind) (bytes : List ℕ) → is_kept (token_of kind bytes) ≡ false
none_kept kinds.End bytes = refl
none_kept kinds.Other bytes = refl
none_kept kinds.Label bytes = refl
none_kept kinds.Word bytes = refl
none_kept kinds.Number bytes = refl
none_kept kinds.Register bytes = refl
none_kept kinds.Function bytes = refl
none_kept kinds.Group bytes = refl
none_kept kinds.Metadata bytes = refl
none_kept kinds.Quoted bytes = refl
none_kept kinds.Mark [] = refl
none_kept kinds.Mark (b ∷ bytes) = refl

-- a kept line from a place on, by its first token
record KeptFrom (text : List ℕ) (place : Section) (at : ℕ) (bytes : List ℕ) : Type 0 where
  t : Scanned
  rest : Span
  next : IsNextToken text at t
  extent : HasExtent text place t extents.Line
  kept : IsKeptLine text t.span.end rest
  bytes_are : bytes ≡ between text t.span.start rest.end

kept_from : {text : List ℕ} {place : Section} {at end : ℕ} {t : Placed} → IsTokenAt text place at t end → is_kept t.1 ≡ true → KeptFrom text place at (kept_bytes t.1)
kept_from {text} {place} {at} (itself t next extent) e = absurd (false≢true (sym (none_kept t.kind (between text t.span.start t.span.end)) ∙ e))
kept_from {text} {place} {at} (kept_line t rest next extent kept) e = record { t = t; rest = rest; next = next; extent = extent; kept = kept; bytes_are = refl }
kept_from {text} {place} {at} (kept_group t rest next extent kept) e = absurd (false≢true e)
kept_from {text} {place} {at} (unclosed t next extent none) e = absurd (false≢true e)
kept_from {text} {place} {at} (bad_byte line is) e = absurd (false≢true e)

-- ---- the first token of a kept line

line_begins : (line : ℕ) (bytes : List ℕ) → extent_of (AtEntry None) line bytes ≡ extents.Line → begins_kept bytes ≡ true
unfolding extent_of
line_begins line bytes e = ⊎_elim
    (λ (h : begins_kept bytes ≡ true). h)
    (λ (h : begins_kept bytes ≡ false). absurd (let other : extents.Itself ≡ extents.Line = rw h at e in cc))
    (which (begins_kept bytes))

-- a kept line may begin with the byte
abbrev begins_line : ℕ → Bool
begins_line b = begins_word b || eqb b 33

begins_some : (bytes : List ℕ) → begins_kept bytes ≡ true → begins_with begins_line bytes ≡ true
unfolding begins_kept begins_word begins_name is_letter
begins_some bytes e = ⊎_elim
    (λ (h : is_among kept_words bytes ≡ true). among_begins begins_line kept_words bytes refl h)
    (λ (h : begins_with (λ b. eqb b 33 || eqb b 36) bytes ≡ true). sign bytes h)
    (or_true (is_among kept_words bytes) (begins_with (λ b. eqb b 33 || eqb b 36) bytes) e)
  where
    sign : (bytes : List ℕ) → begins_with (λ b. eqb b 33 || eqb b 36) bytes ≡ true → begins_with begins_line bytes ≡ true
    sign [] h = h
    sign (b ∷ bytes) h = ⊎_elim
        (λ (k : eqb b 33 ≡ true). ap begins_line (eqb-true b 33 k))
        (λ (k : eqb b 36 ≡ true). ap begins_line (eqb-true b 36 k))
        (or_true (eqb b 33) (eqb b 36) h)

-- such a text begins with a token
no_other : (text : List ℕ) → BeginsNoToken text → begins_kept (take 1 text) ≡ true → ⊥
unfolding is_word is_metadata begins_word is_name_byte
no_other [] none e = false≢true none.visible
no_other (b ∷ text) none e = ⊎_elim
    (λ (h : begins_word b ≡ true).
    let name : is_name_byte b ≡ true = rw (and_left (begins_name b) (not (eqb b 45)) h) refl in
    false≢true (sym (none.no_token kinds.Word 1 (omega arith)) ∙ and_both (begins_word b) (is_name_byte b && true) h (and_both (is_name_byte b) true name refl)))
    (λ (h : eqb b 33 ≡ true). false≢true (sym (none.no_token kinds.Metadata 1 (omega arith)) ∙ and_both (eqb b 33) true h refl))
    (or_true (begins_word b) (eqb b 33) (begins_some (b ∷ []) e))

pub begun : (text : List ℕ) (kind : TokenKind) (n : ℕ) → Begins text kind n → begins_kept (take n text) ≡ true → IsLongestToken text kind n
begun text kind n h e = ⊎_elim
    (λ (t : IsLongestToken text kind n). t)
    (λ (o : ((kind ≡ kinds.Other) × BeginsNoToken text × (n ≡ 1)) ⊎ ((kind ≡ kinds.End) × (text ≡ []) × (n ≡ 0))). absurd (⊎_elim
    (λ (x : (kind ≡ kinds.Other) × BeginsNoToken text × (n ≡ 1)). no_other text x.1 (subst (λ (i : ℕ). begins_kept (take i text) ≡ true) x.2 e))
    (λ (x : (kind ≡ kinds.End) × (text ≡ []) × (n ≡ 0)). false≢true (sym (ap (λ (i : ℕ). begins_with begins_line (take i text)) x.2) ∙ begins_some (take n text) e))
    o))
    (seen text kind n h)

-- ---- a kept line as a whole text

whole_line : (p : ℕ → Bool) (text : List ℕ) → length text ≤ length (take_while p text) → take_while p text ≡ text
whole_line p text le = take_all (prefix_len p text) text (omega (arith, length-take (prefix_len p text) text))

pub alone : (bytes : List ℕ) → AreTokens bytes ((1, Kept bytes) ∷ (1, End) ∷ []) → IsKeptAlone bytes
alone bytes h =
    let f : (end : ℕ) × IsTokenAt bytes (AtEntry None) 0 (1, Kept bytes) end = first_is h (1, Kept bytes) _ refl in
    by (kept_from f.1 refl)
  where
    by : KeptFrom bytes (AtEntry None) 0 bytes → IsKeptAlone bytes
    by k =
        let start : ℕ = k.t.span.start in
        let end : ℕ = k.t.span.end in
        let n : ℕ = end - start in
        let begins : begins_kept (between bytes start end) ≡ true = line_begins k.t.line _ k.extent in
        let some : 0 < length (between bytes start end) = has_byte begins_line (between bytes start end) (begins_some _ begins) in
        let fits : start < length bytes = omega (arith, length-take n (drop start bytes), length-drop start bytes) in
        let zero : start ≡ 0 = omega (arith, ap length k.bytes_are, length-take (k.rest.end - start) (drop start bytes), length-drop start bytes) in
        let count : end ≡ n = omega arith in
        let past : length bytes ≤ k.rest.end = omega (arith, ap length k.bytes_are, length-take (k.rest.end - start) (drop start bytes), length-drop start bytes) in
        let behind : List ℕ = rest_to_feed bytes end in
        let within : end + length behind ≤ length bytes = run_within in_line bytes end k.next.order.2 in
        let whole : length (drop end bytes) ≤ length behind = omega (arith, length-drop end bytes, k.kept.end) in
        let blanks : length behind - blanks_behind behind ≡ length behind = omega (arith, k.kept.end) in
        record {
          kind = k.t.kind;
          n = n;
          longest = subst (λ (i : ℕ). IsLongestToken (drop i bytes) k.t.kind n) zero (begun (drop start bytes) k.t.kind n k.next.token begins);
          begins = subst (λ (i : ℕ). begins_kept (take n (drop i bytes)) ≡ true) zero begins;
          no_zero = subst (λ (i : ℕ). ¬ HoldsZero (take n (drop i bytes))) zero k.next.no_zero;
          in_line = subst (λ (i : ℕ). take_while in_line (drop i bytes) ≡ drop i bytes) count (whole_line in_line (drop end bytes) whole);
          no_blanks = subst (λ (i : ℕ). length (drop i bytes) - blanks_behind (drop i bytes) ≡ length (drop i bytes)) count
              (subst (λ (t : List ℕ). length t - blanks_behind t ≡ length t) (whole_line in_line (drop end bytes) whole) blanks);
        }

-- ---- a kept line within a text

line_extent : (place : Section) (line : ℕ) (bytes : List ℕ) → takes_line place line ≡ true → begins_kept bytes ≡ true → extent_of place line bytes ≡ extents.Line
unfolding extent_of
line_extent (AtEntry before) line bytes takes begins = rw (begins, takes) refl
line_extent (InHeader word) line bytes takes begins = absurd (false≢true takes)
line_extent (InBody word) line bytes takes begins = absurd (false≢true takes)

-- the line ends where the next one begins
line_stops : (line rest : List ℕ) → take_while in_line line ≡ line → is_at_line_end rest ≡ true → take_while in_line (line ++ rest) ≡ line
line_stops [] [] whole ends = refl
line_stops [] (b ∷ rest) whole ends = take_while-cons in_line b rest ∙ rw ends refl
line_stops (b ∷ line) rest whole ends = ⊎_elim
    (λ (h : in_line b ≡ true).
    let more : b ∷ take_while in_line line ≡ b ∷ line = ap (λ (t : Bool). cond t (b ∷ take_while in_line line) []) (sym h) ∙ sym (take_while-cons in_line b line) ∙ whole in
    take_while-cons in_line b (line ++ rest) ∙ ap (λ (t : Bool). cond t (b ∷ take_while in_line (line ++ rest)) []) h ∙ ap (λ (t : List ℕ). b ∷ t) (line_stops line rest (cc) ends))
    (λ (h : in_line b ≡ false).
    let none : [] ≡ b ∷ line = ap (λ (t : Bool). cond t (b ∷ take_while in_line line) []) (sym h) ∙ sym (take_while-cons in_line b line) ∙ whole in
    absurd (cc))
    (which (in_line b))

not_going_on : (rest : List ℕ) → is_at_line_end rest ≡ true → begins_with goes_on rest ≡ false
not_going_on [] ends = refl
not_going_on (b ∷ rest) ends = ap goes_on (eqb-true b 10 ends) ∙ feed_goes_not_on

pub line_stands : (text before gap rest bytes : List ℕ) (place : Section) (line : ℕ) → IsKeptAlone bytes → text ≡ before ++ (gap ++ (bytes ++ rest)) → IsGap gap
    → takes_line place (line + feeds gap) ≡ true → is_at_line_end rest ≡ true → line ≡ feeds before + 1
    → IsTokenAt text place (length before) (line + feeds gap, Kept bytes) (length before + length gap + length bytes)
line_stands text before gap rest bytes place line k e h takes ends l =
    let start : ℕ = length before + length gap in
    let n : ℕ = k.n in
    let front : List ℕ = take n bytes in
    let behind : List ℕ = drop n bytes in
    let text_is : text ≡ (before ++ gap) ++ (bytes ++ rest) = e ∙ sym (append_assoc before gap (bytes ++ rest)) in
    let split : bytes ++ rest ≡ front ++ (behind ++ rest) = ap (λ (t : List ℕ). t ++ rest) (sym (take-append-drop n bytes)) ∙ append_assoc front behind rest in
    let next : IsNextToken text (length before) (scanned_at k.kind (line + feeds gap) start n) =
    token_is_next text before gap (bytes ++ rest) k.kind n line e h (longest_within bytes rest k.kind n k.longest (not_going_on rest ends))
    (subst (λ (t : List ℕ). ¬ HoldsZero t) (sym (take-append-le n bytes rest k.longest.within)) k.no_zero) l in
    let long : length front ≡ n = length-take-le n bytes k.longest.within in
    let first : between text start (start + n) ≡ front =
    ap (λ (i : ℕ). between text i (i + n)) (sym (length-append before gap)) ∙ ap (λ (i : ℕ). between text (length (before ++ gap)) (length (before ++ gap) + i)) (sym long)
    ∙ between_is text (before ++ gap) front (behind ++ rest) (text_is ∙ ap (λ (t : List ℕ). (before ++ gap) ++ t) split) in
    let whole : between text start (start + length bytes) ≡ bytes =
    ap (λ (i : ℕ). between text i (i + length bytes)) (sym (length-append before gap)) ∙ between_is text (before ++ gap) bytes rest text_is in
    let past : drop (start + n) text ≡ behind ++ rest =
    sym (drop-drop n start text) ∙ ap (drop n) (ahead_is text before gap (bytes ++ rest) e) ∙ drop-append-le n bytes rest k.longest.within in
    let line_is : rest_to_feed text (start + n) ≡ behind = ap (take_while in_line) past ∙ line_stops behind rest k.in_line ends in
    let count : start + n + length behind ≡ start + length bytes = omega (arith, length-drop n bytes, k.longest.within) in
    let end : start + length bytes ≡ start + n + (length (rest_to_feed text (start + n)) - blanks_behind (rest_to_feed text (start + n))) =
    sym count ∙ ap (λ (i : ℕ). start + n + i) (sym k.no_blanks) ∙ ap (λ (t : List ℕ). start + n + (length t - blanks_behind t)) (sym line_is) in
    let there : start + n + length (rest_to_feed text (start + n)) ≡ start + length bytes = ap (λ (t : List ℕ). start + n + length t) line_is ∙ count in
    subst (λ (t : List ℕ). IsTokenAt text place (length before) (line + feeds gap, Kept t) (start + length bytes)) whole
    (subst (λ (i : ℕ). IsTokenAt text place (length before) (line + feeds gap, Kept (between text start (start + length bytes))) i) there
    (kept_line _ (record { start = start + n; end = start + length bytes }) next (ap (extent_of place (line + feeds gap)) first ∙ line_extent place (line + feeds gap) front takes k.begins) (record { start = refl; end = end })))
