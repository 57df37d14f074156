-- The bracket that closes another, as a loop over the bytes finds it.
use Rattle.scan.proofs.Common.{◌≡◌, ℕ, zero, suc, cond, ◌+◌, ◌-◌, ◌<◌, ◌≤◌, Bool, true, false, not, eqb, List, [], ◌∷◌, ◌++◌, Option, Some, None, length, take, drop, refl, sym, ap, subst, ◌∙◌, ⊎_elim, append_assoc, add-one, sub-one, get_or, arith, list_all, eqb-true, false≢true, at_drop_more, at_drop_all, length-drop, length-append, length-take, take_at, take-append-drop, Span, between, feeds, is_plain, IsBalanced, byte, quoted, group, IsGroup, HasNoGroup, is_quotable, OneGroupAtAPlace}
use Rattle.scan.specs.Kept.{nothing}
use Rattle.scan.proofs.Fronts.{which}
use Rattle.scan.proofs.PlaceLemmas.{feeds_append, feeds_between, no_feeds}

-- what follows the bracket that closes the one before the text, where `depth` more are open, and a quoted text is open
-- or not
abbrev pub closing : Bool → ℕ → List ℕ → Option (List ℕ)
closing in_quotes depth [] = None
closing in_quotes depth (b ∷ text) =
    cond (eqb b 10) None
    (cond (eqb b 34) (closing (not in_quotes) depth text)
    (cond in_quotes (closing in_quotes depth text)
    (cond (eqb b 40) (closing in_quotes (depth + 1) text)
    (cond (eqb b 41) (cond (eqb depth 0) (Some text) (closing in_quotes (depth - 1) text))
    (closing in_quotes depth text)))))

no_zero : (n : ℕ) → eqb (suc n) 0 ≡ false
no_zero n = ⊎_elim (λ (e : eqb (suc n) 0 ≡ true). absurd (let is : suc n ≡ 0 = eqb-true (suc n) 0 e in omega arith)) (λ (e : eqb (suc n) 0 ≡ false). e) (which (eqb (suc n) 0))

-- ---- what the loop finds closes the bracket

-- balanced bytes, the bracket that closes them, and a rest of which Behind holds
record Closes (Behind : List ℕ → Type 0) (text : List ℕ) : Type 0 where
  pub content : List ℕ
  pub rest : List ℕ
  pub balanced : IsBalanced content
  pub text_is : text ≡ content ++ 41 ∷ rest
  pub behind : Behind rest

-- the rest stands behind the closing bracket, with `depth` more to be closed before it
abbrev Deep : List ℕ → ℕ → List ℕ → Type 0
Deep rest zero text = text ≡ rest
Deep rest (suc depth) text = Closes (Deep rest depth) text

closes_byte : (P : List ℕ → Type 0) (b : ℕ) (text : List ℕ) → is_plain b ≡ true → Closes P text → Closes P (b ∷ text)
closes_byte P b text plain h = record {
  content = b ∷ h.content;
  rest = h.rest;
  balanced = byte plain h.balanced;
  text_is = ap (λ (bytes : List ℕ). b ∷ bytes) h.text_is;
  behind = h.behind;
}

closes_group : (P : List ℕ → Type 0) (text : List ℕ) → Closes (Closes P) text → Closes P (40 ∷ text)
closes_group P text h = record {
  content = 40 ∷ (h.content ++ 41 ∷ h.behind.content);
  rest = h.behind.rest;
  balanced = group h.content h.behind.content refl h.balanced h.behind.balanced;
  text_is = ap (λ (bytes : List ℕ). 40 ∷ bytes) h.text_is ∙ ap (λ (bytes : List ℕ). 40 ∷ (h.content ++ 41 ∷ bytes)) h.behind.text_is
      ∙ ap (λ (bytes : List ℕ). 40 ∷ bytes) (sym (append_assoc h.content (41 ∷ h.behind.content) (41 ∷ h.behind.rest)));
  behind = h.behind.behind;
}

-- a quoted text that is open at the start, and behind it what P says
record ClosesQuoted (P : List ℕ → Type 0) (text : List ℕ) : Type 0 where
  pub inner : List ℕ
  pub rest : List ℕ
  pub quotable : list_all is_quotable inner ≡ true
  pub text_is : text ≡ inner ++ 34 ∷ rest
  pub closes : Closes P rest

closes_quoted : (P : List ℕ → Type 0) (b : ℕ) (text : List ℕ) → b ≡ 34 → ClosesQuoted P text → Closes P (b ∷ text)
closes_quoted P b text e h = subst (λ (c : ℕ). Closes P (c ∷ text)) (sym e) (record {
  content = 34 ∷ (h.inner ++ 34 ∷ h.closes.content);
  rest = h.closes.rest;
  balanced = quoted h.inner h.closes.content refl h.quotable h.closes.balanced;
  text_is = ap (λ (bytes : List ℕ). 34 ∷ bytes) h.text_is ∙ ap (λ (bytes : List ℕ). 34 ∷ (h.inner ++ 34 ∷ bytes)) h.closes.text_is
      ∙ ap (λ (bytes : List ℕ). 34 ∷ bytes) (sym (append_assoc h.inner (34 ∷ h.closes.content) (41 ∷ h.closes.rest)));
  behind = h.closes.behind;
})

quoted_opened : (P : List ℕ → Type 0) (b : ℕ) (text : List ℕ) → b ≡ 34 → Closes P text → ClosesQuoted P (b ∷ text)
quoted_opened P b text e h = record { inner = []; rest = text; quotable = refl; text_is = ap (λ (c : ℕ). c ∷ text) e; closes = h }

quoted_more : (P : List ℕ → Type 0) (b : ℕ) (text : List ℕ) → is_quotable b ≡ true → ClosesQuoted P text → ClosesQuoted P (b ∷ text)
quoted_more P b text e h = record {
  inner = b ∷ h.inner;
  rest = h.rest;
  quotable = rw e h.quotable;
  text_is = ap (λ (bytes : List ℕ). b ∷ bytes) h.text_is;
  closes = h.closes;
}

abbrev Found : Bool → ℕ → List ℕ → List ℕ → Type 0
Found true depth rest text = ClosesQuoted (Deep rest depth) text
Found false depth rest text = Closes (Deep rest depth) text

found : (in_quotes : Bool) (depth : ℕ) (text rest : List ℕ) → closing in_quotes depth text ≡ Some rest → Found in_quotes depth rest text
unfolding is_plain is_quotable
found in_quotes depth [] rest e = absurd cc
found true depth (b ∷ text) rest e = ⊎_elim
    (λ (h : eqb b 10 ≡ true). absurd (let no : None ≡ Some rest = rw h at e in cc))
    (λ (h : eqb b 10 ≡ false). ⊎_elim
    (λ (k : eqb b 34 ≡ true). quoted_opened (Deep rest depth) b text (eqb-true b 34 k) (found false depth text rest (rw (h, k) at e)))
    (λ (k : eqb b 34 ≡ false). quoted_more (Deep rest depth) b text (rw (k, h) refl) (found true depth text rest (rw (h, k) at e)))
    (which (eqb b 34)))
    (which (eqb b 10))
found false depth (b ∷ text) rest e = ⊎_elim
    (λ (h : eqb b 10 ≡ true). absurd (let no : None ≡ Some rest = rw h at e in cc))
    (λ (h : eqb b 10 ≡ false). ⊎_elim
    (λ (k : eqb b 34 ≡ true). closes_quoted (Deep rest depth) b text (eqb-true b 34 k) (found true depth text rest (rw (h, k) at e)))
    (λ (k : eqb b 34 ≡ false). ⊎_elim
    (λ (l : eqb b 40 ≡ true).
    let f : Closes (Deep rest (depth + 1)) text = found false (depth + 1) text rest (rw (h, k, l) at e) in
    let g : Closes (Closes (Deep rest depth)) text = rw add-one at f in
    subst (λ (c : ℕ). Closes (Deep rest depth) (c ∷ text)) (sym (eqb-true b 40 l)) (closes_group (Deep rest depth) text g))
    (λ (l : eqb b 40 ≡ false). ⊎_elim
    (λ (m : eqb b 41 ≡ true). subst (λ (c : ℕ). Closes (Deep rest depth) (c ∷ text)) (sym (eqb-true b 41 m)) (bracket (λ (inner : ℕ). found false inner text rest) depth (rw (h, k, l, m) at e)))
    (λ (m : eqb b 41 ≡ false). closes_byte (Deep rest depth) b text (rw (l, m, k, h) refl) (found false depth text rest (rw (h, k, l, m) at e)))
    (which (eqb b 41)))
    (which (eqb b 40)))
    (which (eqb b 34)))
    (which (eqb b 10))
  where
    bracket : ((inner : ℕ) → closing false inner text ≡ Some rest → Closes (Deep rest inner) text) → (depth : ℕ) → cond (eqb depth 0) (Some text) (closing false (depth - 1) text) ≡ Some rest → Closes (Deep rest depth) (41 ∷ text)
    bracket more zero e = record { content = []; rest = text; balanced = nothing; text_is = refl; behind = cc }
    bracket more (suc depth) e = record { content = []; rest = text; balanced = nothing; text_is = refl; behind = more depth (rw (no_zero depth, sub-one) at e) }

-- ---- what closes the bracket is found by the loop

quoted_skipped : (depth : ℕ) (inner rest : List ℕ) → list_all is_quotable inner ≡ true → closing true depth (inner ++ 34 ∷ rest) ≡ closing false depth rest
unfolding is_quotable
quoted_skipped depth [] rest all = refl
quoted_skipped depth (b ∷ inner) rest all = ⊎_elim
    (λ (h : eqb b 34 ≡ true). absurd (false≢true (rw h at all)))
    (λ (h : eqb b 34 ≡ false). ⊎_elim
    (λ (k : eqb b 10 ≡ true). absurd (false≢true (rw (h, k) at all)))
    (λ (k : eqb b 10 ≡ false). rw (k, h) (quoted_skipped depth inner rest (rw (h, k) at all)))
    (which (eqb b 10)))
    (which (eqb b 34))

plain_skipped : (depth b : ℕ) (rest : List ℕ) → is_plain b ≡ true → closing false depth (b ∷ rest) ≡ closing false depth rest
unfolding is_plain
plain_skipped depth b rest plain = ⊎_elim
    (λ (h : eqb b 40 ≡ true). absurd (false≢true (rw h at plain)))
    (λ (h : eqb b 40 ≡ false). ⊎_elim
    (λ (k : eqb b 41 ≡ true). absurd (false≢true (rw (h, k) at plain)))
    (λ (k : eqb b 41 ≡ false). ⊎_elim
    (λ (l : eqb b 34 ≡ true). absurd (false≢true (rw (h, k, l) at plain)))
    (λ (l : eqb b 34 ≡ false). ⊎_elim
    (λ (m : eqb b 10 ≡ true). absurd (false≢true (rw (h, k, l, m) at plain)))
    (λ (m : eqb b 10 ≡ false). rw (m, l, h, k) refl)
    (which (eqb b 10)))
    (which (eqb b 34)))
    (which (eqb b 41)))
    (which (eqb b 40))

close_skipped : (depth : ℕ) (rest : List ℕ) → closing false (depth + 1) (41 ∷ rest) ≡ closing false depth rest
close_skipped depth rest = rw (add-one, no_zero depth, sub-one) refl

skipped : {content : List ℕ} → IsBalanced content → (depth : ℕ) (rest : List ℕ) → closing false depth (content ++ rest) ≡ closing false depth rest
skipped nothing depth rest = refl
skipped (byte {b} {rest = behind} plain h) depth rest = plain_skipped depth b (behind ++ rest) plain ∙ skipped h depth rest
skipped (quoted inner behind e all h) depth rest =
    ap (λ (bytes : List ℕ). closing true depth (bytes ++ rest)) e ∙ ap (closing true depth) (append_assoc inner (34 ∷ behind) rest)
    ∙ quoted_skipped depth inner (behind ++ rest) all ∙ skipped h depth rest
skipped (group content behind e g h) depth rest =
    ap (λ (bytes : List ℕ). closing false (depth + 1) (bytes ++ rest)) e ∙ ap (closing false (depth + 1)) (append_assoc content (41 ∷ behind) rest)
    ∙ skipped g (depth + 1) (41 ∷ (behind ++ rest)) ∙ close_skipped depth (behind ++ rest) ∙ skipped h depth rest

pub closes : (content rest : List ℕ) → IsBalanced content → closing false 0 (content ++ 41 ∷ rest) ≡ Some rest
closes content rest h = skipped h 0 (41 ∷ rest)

-- ---- groups at a place

pub group_at : (text : List ℕ) (place : ℕ) (content rest : List ℕ) → place ≤ length text → IsBalanced content → drop place text ≡ content ++ 41 ∷ rest → IsGroup text place (record { start = place; end = length text - length rest })
group_at text place content rest h balanced e =
    let total : length text - place ≡ length (content ++ 41 ∷ []) + length rest = sym (length-drop place text) ∙ ap length split ∙ length-append (content ++ 41 ∷ []) rest in
    let some : length (content ++ 41 ∷ []) ≡ length content + 1 = length-append content (41 ∷ []) in
    let far : length text - length rest - place ≡ length (content ++ 41 ∷ []) = omega arith in
    record {
      start = refl;
      within = omega arith;
      content = content;
      balanced = balanced;
      bytes = ap (λ (n : ℕ). take n (drop place text)) far ∙ ap (take (length (content ++ 41 ∷ []))) split ∙ take_at (content ++ 41 ∷ []) rest (length (content ++ 41 ∷ [])) refl;
    }
  where
    split : drop place text ≡ (content ++ 41 ∷ []) ++ rest
    split = e ∙ sym (append_assoc content (41 ∷ []) rest)

pub group_fits : (text : List ℕ) (place : ℕ) (content rest : List ℕ) → place ≤ length text → drop place text ≡ content ++ 41 ∷ rest → place ≤ length text - length rest
group_fits text place content rest h e =
    let total : length text - place ≡ length content + length (41 ∷ rest) = sym (length-drop place text) ∙ ap length e ∙ length-append content (41 ∷ rest) in
    omega arith

-- the text behind a group
behind : (text : List ℕ) (place : ℕ) (span : Span) (h : IsGroup text place span) → drop place text ≡ h.content ++ 41 ∷ drop (span.end - place) (drop place text)
behind text place span h =
    sym (take-append-drop (span.end - place) (drop place text)) ∙ ap (λ (bytes : List ℕ). bytes ++ drop (span.end - place) (drop place text)) h.bytes
    ∙ append_assoc h.content (41 ∷ []) (drop (span.end - place) (drop place text))

pub no_group_at : (text : List ℕ) (place : ℕ) → ((content rest : List ℕ) → IsBalanced content → drop place text ≡ content ++ 41 ∷ rest → ⊥) → HasNoGroup text place
no_group_at text place none span h = none h.content (drop (span.end - place) (drop place text)) h.balanced (behind text place span h)

-- a group is on one line
balanced_feeds : {content : List ℕ} → IsBalanced content → feeds content ≡ 0
unfolding is_plain is_quotable
balanced_feeds nothing = refl
balanced_feeds (byte {b} {rest} plain h) = feeds_append (b ∷ []) rest ∙ (let one : feeds (b ∷ []) ≡ 0 = no_feeds is_plain (b ∷ []) refl (rw plain refl) in let none : feeds rest ≡ 0 = balanced_feeds h in omega arith)
balanced_feeds (quoted inner rest e all h) =
    let none : feeds rest ≡ 0 = balanced_feeds h in
    let first : feeds inner ≡ 0 = no_feeds is_quotable inner refl all in
    ap (λ (bytes : List ℕ). feeds (34 ∷ bytes)) e ∙ feeds_append (34 ∷ inner) (34 ∷ rest) ∙ omega (arith, feeds_append (34 ∷ []) inner, feeds_append (34 ∷ []) rest)
balanced_feeds (group content rest e g h) =
    let none : feeds rest ≡ 0 = balanced_feeds h in
    let first : feeds content ≡ 0 = balanced_feeds g in
    ap (λ (bytes : List ℕ). feeds (40 ∷ bytes)) e ∙ feeds_append (40 ∷ content) (41 ∷ rest) ∙ omega (arith, feeds_append (40 ∷ []) content, feeds_append (41 ∷ []) rest)

pub group_feeds : (text : List ℕ) (place : ℕ) (span : Span) → place ≤ span.end → IsGroup text place span → feeds (take span.end text) ≡ feeds (take place text)
group_feeds text place span h g =
    let none : feeds (between text place span.end) ≡ 0 = ap feeds g.bytes ∙ feeds_append g.content (41 ∷ []) ∙ omega (arith, balanced_feeds g.balanced) in
    omega (arith, feeds_between text place span.end h)

-- ---- a bracket is closed once

group_closes : (text : List ℕ) (place : ℕ) (span : Span) → IsGroup text place span → closing false 0 (drop place text) ≡ Some (drop (span.end - place) (drop place text))
group_closes text place span h = ap (closing false 0) (behind text place span h) ∙ closes h.content (drop (span.end - place) (drop place text)) h.balanced

group_some : (text : List ℕ) (place : ℕ) (span : Span) → IsGroup text place span → place < span.end
group_some text place span h = omega (arith, length-take (span.end - place) (drop place text), ap length h.bytes, length-append h.content (41 ∷ []))

some_is : (xs ys : List ℕ) → Some xs ≡ Some ys → xs ≡ ys
some_is xs ys e = cc

abbrev span_of : ℕ → ℕ → Span
span_of start end = record { start = start; end = end }

pub one_group : OneGroupAtAPlace
one_group text place a b within h k =
    let rest : drop (a.end - place) (drop place text) ≡ drop (b.end - place) (drop place text) = some_is _ _ (sym (group_closes text place a h) ∙ group_closes text place b k) in
    let same : a.end ≡ b.end = omega (
      arith,
      ap length rest,
      length-drop (a.end - place) (drop place text),
      length-drop (b.end - place) (drop place text),
      length-drop place text,
      h.within,
      k.within,
      group_some text place a h,
      group_some text place b k,
    ) in
    ap (λ (x : ℕ). span_of x a.end) (h.start ∙ sym k.start) ∙ ap (span_of b.start) same

-- ---- what the loop answers

pub closed : (text rest : List ℕ) → closing false 0 text ≡ Some rest → (content : List ℕ) × IsBalanced content × (text ≡ content ++ 41 ∷ rest)
closed text rest e =
    let f : Closes (Deep rest 0) text = found false 0 text rest e in
    (f.content, f.balanced, f.text_is ∙ ap (λ (bytes : List ℕ). f.content ++ 41 ∷ bytes) f.behind)

pub not_closed : (text content rest : List ℕ) → closing false 0 text ≡ None → IsBalanced content → text ≡ content ++ 41 ∷ rest → ⊥
not_closed text content rest e h is = let some : closing false 0 text ≡ Some rest = ap (closing false 0) is ∙ closes content rest h in cc

-- at a line feed, and at a closing bracket where no more are open
pub closing-feed : (in_quotes : Bool) (depth : ℕ) (text : List ℕ) (i d : ℕ) → i < length text → get_or text i d ≡ 10 → closing in_quotes depth (drop i text) ≡ None
closing-feed in_quotes depth text i d h e = at_drop_more (closing in_quotes depth) text i d h ∙ ap (λ (b : ℕ). closing in_quotes depth (b ∷ drop (i + 1) text)) e

pub closing-bracket : (text : List ℕ) (i d : ℕ) → i < length text → get_or text i d ≡ 41 → closing false 0 (drop i text) ≡ Some (drop (i + 1) text)
closing-bracket text i d h e = at_drop_more (closing false 0) text i d h ∙ ap (λ (b : ℕ). closing false 0 (b ∷ drop (i + 1) text)) e

pub closing-end : (in_quotes : Bool) (depth : ℕ) (text : List ℕ) (i : ℕ) → length text ≤ i → closing in_quotes depth (drop i text) ≡ None
closing-end in_quotes depth text i h = at_drop_all (closing in_quotes depth) text i h
