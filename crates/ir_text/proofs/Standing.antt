-- Where the bytes of a token are written in a text, that token is lexed.
use Rattle.ir_text.proofs.Common.{◌≡◌, ◌≢◌, ℕ, ◌+◌, ◌-◌, ◌≤◌, true, false, not, eqb, ◌||◌, List, [], ◌∷◌, ◌++◌, length, take, drop, refl, sym, ap, subst, ◌∙◌, ◌⊎◌, inl, ⊎_elim, append_assoc, length-take, take_at, drop_at, drop-drop, arith, list_all, drop-append_seam, drop-length, false≢true, TokenKind, begins_with, is_space, IsGap, IsLastGap, nothing, space, HoldsZero, IsLongestToken, IsNextToken, line_at, between, feeds, last_line, line_of, marks, IsBalanced, IsGroup, is_among, and_left, and_right, or_true, which, group_at, among_begins, next_token, no_end, begins_token, short_holds_none, Behind, feeds_append, Section, AtEntry, InHeader, InBody, IsTokenAt, itself, kept_group, extent_of, Token, KeptGroup, Mark, token_of, bytes_of, goes_on, takes_group}
use Rattle.std.proofs.Common.{append-nil, length-append}
use Rattle.scan.specs.declared.ir.token.TokenKind.TheVariants as kinds
use Rattle.scan.specs.declared.ir.token.Token.{Token as Scanned}
use Rattle.ir_tokens.specs.declared.place.Extent.TheVariants as extents
use Rattle.ir_text.proofs.Ending.{longest_within, lone_token, whole_token}
use Rattle.ir_text.proofs.Spelled.{IsSpelled, mark_spelled}
use Rattle.ir_text.proofs.Shapes.{is_lone}

-- ---- parts of a text

pub gap_is : (gap : List ℕ) → list_all is_space gap ≡ true → IsGap gap
gap_is [] all = nothing
gap_is (b ∷ gap) all = space (and_left (is_space b) (list_all is_space gap) all) (gap_is gap (and_right (is_space b) (list_all is_space gap) all))

pub between_is : (text a b c : List ℕ) → text ≡ a ++ (b ++ c) → between text (length a) (length a + length b) ≡ b
between_is text a b c e =
    let long : length b ≡ length a + length b - length a = omega arith in
    ap (λ (t : List ℕ). between t (length a) (length a + length b)) e
    ∙ ap (take (length a + length b - length a)) (drop-append_seam a (b ++ c)) ∙ take_at b c (length a + length b - length a) long

-- the text behind the bytes before and a gap
pub ahead_is : (text before gap ahead : List ℕ) → text ≡ before ++ (gap ++ ahead) → drop (length before + length gap) text ≡ ahead
ahead_is text before gap ahead e =
    ap (drop (length before + length gap)) (e ∙ sym (append_assoc before gap ahead)) ∙ drop_at (before ++ gap) ahead (length before + length gap) (length-append before gap)

feeds_before : (text before gap ahead : List ℕ) → text ≡ before ++ (gap ++ ahead) → feeds (take (length before + length gap) text) ≡ feeds before + feeds gap
feeds_before text before gap ahead e =
    ap (λ (t : List ℕ). feeds (take (length before + length gap) t)) (e ∙ sym (append_assoc before gap ahead))
    ∙ ap feeds (take_at (before ++ gap) ahead (length before + length gap) (length-append before gap)) ∙ feeds_append before gap

long : (text before gap ahead : List ℕ) → text ≡ before ++ (gap ++ ahead) → length text ≡ length before + (length gap + length ahead)
long text before gap ahead e = ap length e ∙ omega (arith, length-append before (gap ++ ahead), length-append gap ahead)

pub behind_gap : (text before gap ahead : List ℕ) → text ≡ before ++ (gap ++ ahead) → IsGap gap → Behind text (length before) (length before + length gap)
behind_gap text before gap ahead e h =
    let is : between text (length before) (length before + length gap) ≡ gap = between_is text before gap ahead e in
    record {
      order = (omega arith, omega (arith, long text before gap ahead e));
      gap = λ _. subst IsGap (sym is) h;
      last = λ _. inl (subst IsGap (sym is) h);
    }

-- ---- the next token

line_of_token : (text : List ℕ) (start : ℕ) (kind : TokenKind) → kind ≢ kinds.End → line_at kind text start ≡ line_of text start
line_of_token text start kinds.End some = absurd (some refl)
line_of_token text start kinds.Other some = refl
line_of_token text start kinds.Label some = refl
line_of_token text start kinds.Word some = refl
line_of_token text start kinds.Number some = refl
line_of_token text start kinds.Register some = refl
line_of_token text start kinds.Function some = refl
line_of_token text start kinds.Group some = refl
line_of_token text start kinds.Metadata some = refl
line_of_token text start kinds.Quoted some = refl
line_of_token text start kinds.Mark some = refl

-- the token of this kind and of n bytes, from `start` on
abbrev pub scanned_at : TokenKind → ℕ → ℕ → ℕ → Scanned
scanned_at kind line start n = record { kind = kind; line = line; span = record { start = start; end = start + n } }

pub token_is_next : (text before gap ahead : List ℕ) (kind : TokenKind) (n line : ℕ) → text ≡ before ++ (gap ++ ahead) → IsGap gap → IsLongestToken ahead kind n → ¬ HoldsZero (take n ahead)
    → line ≡ feeds before + 1 → IsNextToken text (length before) (scanned_at kind (line + feeds gap) (length before + length gap) n)
token_is_next text before gap ahead kind n line e h longest no_zero l =
    let start : ℕ = length before + length gap in
    let is : drop start text ≡ ahead = ahead_is text before gap ahead e in
    let token : IsLongestToken (drop start text) kind n = subst (λ (t : List ℕ). IsLongestToken t kind n) (sym is) longest in
    next_token text (length before) start n (line + feeds gap) kind (behind_gap text before gap ahead e h) (begins_token (drop start text) kind n token)
    (subst (λ (t : List ℕ). ¬ HoldsZero (take n t)) (sym is) no_zero)
    (let there : line + feeds gap ≡ line_of text start = omega (arith, feeds_before text before gap ahead e) in there ∙ sym (line_of_token text start kind (no_end (drop start text) kind n token)))

pub end_is_next : (text before gap : List ℕ) → text ≡ before ++ gap → IsLastGap gap → IsNextToken text (length before) (scanned_at kinds.End (last_line text) (length text) 0)
end_is_next text before gap e h =
    let text_is : text ≡ before ++ (gap ++ []) = e ∙ ap (λ (t : List ℕ). before ++ t) (sym (append-nil gap)) in
    let count : length before + length gap ≡ length text = omega (arith, long text before gap [] text_is) in
    let is : between text (length before) (length text) ≡ gap = ap (between text (length before)) (sym count) ∙ between_is text before gap [] text_is in
    let behind : Behind text (length before) (length text) = record { order = (omega arith, omega arith); gap = λ less. absurd (omega arith); last = λ _. subst IsLastGap (sym is) h } in
    next_token text (length before) (length text) 0 (last_line text) kinds.End behind (drop-length text, refl) (short_holds_none (take 0 (drop (length text) text)) (omega (arith, length-take 0 (drop (length text) text)))) refl

-- ---- tokens by themselves

pub itself_stands : (text before gap rest : List ℕ) (place : Section) (line : ℕ) (token : Token) (kind : TokenKind) → IsSpelled token kind → text ≡ before ++ (gap ++ (bytes_of token ++ rest)) → IsGap gap
    → IsLongestToken (bytes_of token ++ rest) kind (length (bytes_of token)) → extent_of place (line + feeds gap) (bytes_of token) ≡ extents.Itself → line ≡ feeds before + 1
    → IsTokenAt text place (length before) (line + feeds gap, token) (length before + length gap + length (bytes_of token))
itself_stands text before gap rest place line token kind s e h longest extent l =
    let bytes : List ℕ = bytes_of token in
    let start : ℕ = length before + length gap in
    let is : between text start (start + length bytes) ≡ bytes =
    ap (λ (i : ℕ). between text i (i + length bytes)) (sym (length-append before gap)) ∙ between_is text (before ++ gap) bytes rest (e ∙ sym (append_assoc before gap (bytes ++ rest))) in
    let next : IsNextToken text (length before) (scanned_at kind (line + feeds gap) start (length bytes)) =
    token_is_next text before gap (bytes ++ rest) kind (length bytes) line e h longest (subst (λ (t : List ℕ). ¬ HoldsZero t) (sym (take_at bytes rest (length bytes) refl)) s.no_zero) l in
    subst (λ (t : Token). IsTokenAt text place (length before) (line + feeds gap, t) (start + length bytes)) (ap (token_of kind) is ∙ s.is)
    (itself _ next (ap (extent_of place (line + feeds gap)) is ∙ extent))

-- a token that the rest doesn't continue
pub ended_stands : (text before gap rest : List ℕ) (place : Section) (line : ℕ) (token : Token) (kind : TokenKind) → IsSpelled token kind → text ≡ before ++ (gap ++ (bytes_of token ++ rest)) → IsGap gap
    → begins_with goes_on rest ≡ false → extent_of place (line + feeds gap) (bytes_of token) ≡ extents.Itself → line ≡ feeds before + 1
    → IsTokenAt text place (length before) (line + feeds gap, token) (length before + length gap + length (bytes_of token))
ended_stands text before gap rest place line token kind s e h ends extent l =
    itself_stands text before gap rest place line token kind s e h (longest_within (bytes_of token) rest kind (length (bytes_of token)) (whole_token kind (bytes_of token) s.spelled) ends) extent l

-- ---- marks

-- each mark but `#` ends by itself
mark_is : (b : ℕ) → is_among marks (b ∷ []) ≡ true → (is_lone b ≡ true) ⊎ (eqb b 35 ≡ true)
mark_is b e = or_true (is_lone b) (eqb b 35) (among_begins (λ c. is_lone c || eqb c 35) marks (b ∷ []) refl e)

pub mark_stands : (text before gap rest : List ℕ) (place : Section) (line byte : ℕ) → is_among marks (byte ∷ []) ≡ true → text ≡ before ++ (gap ++ (byte ∷ rest)) → IsGap gap
    → (not (eqb byte 35) || not (begins_with goes_on rest)) ≡ true → extent_of place (line + feeds gap) (byte ∷ []) ≡ extents.Itself → line ≡ feeds before + 1
    → IsTokenAt text place (length before) (line + feeds gap, Mark byte) (length before + length gap + 1)
mark_stands text before gap rest place line byte mark e h ends extent l = ⊎_elim
    (λ (lone : is_lone byte ≡ true). itself_stands text before gap rest place line (Mark byte) kinds.Mark (mark_spelled byte mark) e h (lone_token byte rest lone mark) extent l)
    (λ (hash : eqb byte 35 ≡ true). ended_stands text before gap rest place line (Mark byte) kinds.Mark (mark_spelled byte mark) e h (not_begun hash) extent l)
    (mark_is byte mark)
  where
    not_begun : eqb byte 35 ≡ true → begins_with goes_on rest ≡ false
    not_begun hash = ⊎_elim
        (λ (on : begins_with goes_on rest ≡ true). absurd (false≢true (rw (hash, on) at ends)))
        (λ (off : begins_with goes_on rest ≡ false). off)
        (which (begins_with goes_on rest))

-- ---- kept groups

takes_is : (place : Section) (line : ℕ) → takes_group place line ≡ true → extent_of place line (40 ∷ []) ≡ extents.Group
unfolding extent_of
takes_is (AtEntry before) line e = absurd (false≢true e)
takes_is (InHeader word) line e = rw e refl
takes_is (InBody word) line e = rw e refl

pub group_stands : (text before gap rest bytes content : List ℕ) (place : Section) (line : ℕ) → IsBalanced content → bytes ≡ 40 ∷ (content ++ 41 ∷ []) → text ≡ before ++ (gap ++ (bytes ++ rest)) → IsGap gap
    → takes_group place (line + feeds gap) ≡ true → line ≡ feeds before + 1
    → IsTokenAt text place (length before) (line + feeds gap, KeptGroup bytes) (length before + length gap + length bytes)
group_stands text before gap rest bytes content place line balanced is e h takes l =
    let start : ℕ = length before + length gap in
    let inner : bytes ++ rest ≡ 40 ∷ (content ++ 41 ∷ rest) = ap (λ (t : List ℕ). t ++ rest) is ∙ ap (λ (t : List ℕ). 40 ∷ t) (append_assoc content (41 ∷ []) rest) in
    let text_is : text ≡ before ++ (gap ++ (40 ∷ (content ++ 41 ∷ rest))) = e ∙ ap (λ (t : List ℕ). before ++ (gap ++ t)) inner in
    let next : IsNextToken text (length before) (scanned_at kinds.Mark (line + feeds gap) start 1) =
    token_is_next text before gap (40 ∷ (content ++ 41 ∷ rest)) kinds.Mark 1 line text_is h (lone_token 40 (content ++ 41 ∷ rest) refl refl) (short_holds_none (40 ∷ []) (omega arith)) l in
    let bracket : between text start (start + 1) ≡ 40 ∷ [] =
    ap (λ (i : ℕ). between text i (i + 1)) (sym (length-append before gap)) ∙ between_is text (before ++ gap) (40 ∷ []) (content ++ 41 ∷ rest) (text_is ∙ sym (append_assoc before gap (40 ∷ (content ++ 41 ∷ rest)))) in
    let whole : between text start (start + length bytes) ≡ bytes =
    ap (λ (i : ℕ). between text i (i + length bytes)) (sym (length-append before gap)) ∙ between_is text (before ++ gap) bytes rest (e ∙ sym (append_assoc before gap (bytes ++ rest))) in
    let past : drop (start + 1) text ≡ content ++ 41 ∷ rest = sym (drop-drop 1 start text) ∙ ap (drop 1) (ahead_is text before gap (40 ∷ (content ++ 41 ∷ rest)) text_is) in
    let count : length text - length rest ≡ start + length bytes = omega (arith, long text before gap (bytes ++ rest) e, length-append bytes rest) in
    let fits : start + 1 ≤ length text = omega (arith, long text before gap (bytes ++ rest) e, ap length is, length-append bytes rest) in
    let group : IsGroup text (start + 1) (record { start = start + 1; end = start + length bytes }) =
    subst (λ (n : ℕ). IsGroup text (start + 1) (record { start = start + 1; end = n })) count (group_at text (start + 1) content rest fits balanced past) in
    subst (λ (t : List ℕ). IsTokenAt text place (length before) (line + feeds gap, KeptGroup t) (start + length bytes)) whole
    (kept_group _ _ next (ap (extent_of place (line + feeds gap)) bracket ∙ takes_is place (line + feeds gap) takes) group)
