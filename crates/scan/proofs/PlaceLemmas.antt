-- Places in a text, and what stands behind the gap there.
use Rattle.scan.proofs.Common.{◌≡◌, ◌≢◌, ℕ, zero, suc, cond, ◌+◌, ◌-◌, ◌<◌, ◌≤◌, Bool, true, false, eqb, List, [], ◌∷◌, ◌++◌, Some, None, length, take, drop, refl, sym, ap, subst, ◌∙◌, ⊎_elim, ◌⊎◌, inl, inr, arith, list_all, prefix_len, take_while, eqb-true, false≢true, sum_by-append, prefix_len-le-length, is_in_rest, rest_of_line, take-append-drop, take-take, drop-take, length-drop, length-take-le, RuleKind, Head, Arrow, is_bad, begins_with, IsGap, IsLastGap, between, feeds, kind_of, in_operator_place, IsNextRuleToken, IsBadNext}
use Rattle.scan.proofs.Fronts.{which, and_left, and_right, run_passes}
use Rattle.scan.specs.declared.rule_token.RuleKind.TheVariants.{End, Other, Register, Word, Number, Mark}
use Rattle.scan.specs.RuleTokens.{IsLongestToken, Begins, IsGapBefore, line_at}
use Rattle.scan.proofs.KindLemmas.{kind_of-empty}

pub feeds_append : (xs ys : List ℕ) → feeds (xs ++ ys) ≡ feeds xs + feeds ys
feeds_append xs ys = sum_by-append (λ (b : ℕ). cond (eqb b 10) 1 0) xs ys

pub take_between : (text : List ℕ) (a b : ℕ) → a ≤ b → take b text ≡ take a text ++ between text a b
take_between text a b h =
    let there : b ≡ a + (b - a) = omega arith in
    sym (take-append-drop a (take b text)) ∙ ap (λ (xs : List ℕ). xs ++ drop a (take b text)) (take-take a b text h)
    ∙ ap (λ (xs : List ℕ). take a text ++ xs) (ap (λ (n : ℕ). drop a (take n text)) there ∙ drop-take a (b - a) text)

pub feeds_between : (text : List ℕ) (a b : ℕ) → a ≤ b → feeds (take b text) ≡ feeds (take a text) + feeds (between text a b)
feeds_between text a b h = ap feeds (take_between text a b h) ∙ feeds_append (take a text) (between text a b)

-- ---- what a text begins with

pub begins_some : (p : ℕ → Bool) (text : List ℕ) → begins_with p text ≡ true → 0 < length text
begins_some p [] e = absurd cc
begins_some p (b ∷ text) e = omega arith

-- a token has at least one byte
longest_some : (operator : Bool) (text : List ℕ) (kind : RuleKind) (n : ℕ) → IsLongestToken operator text kind n → 0 < length text
longest_some operator [] kind n h = absurd (none n (subst (λ (m : ℕ). m ≤ 0) refl h.within) h.of_kind)
  where
    none : (n : ℕ) → n ≤ 0 → kind_of operator (take n []) (drop n []) ≡ Some kind → ⊥
    none zero l e = let no : kind_of operator [] [] ≡ None = kind_of-empty operator [] in cc
    none (suc n) l e = absurd (omega arith)
longest_some operator (b ∷ text) kind n h = omega arith

-- what a text begins with is its end or not
pub end_or_not : (operator : Bool) (text : List ℕ) (kind : RuleKind) (n : ℕ) → Begins operator text kind n → ((kind ≢ End) × (0 < length text)) ⊎ ((kind ≡ End) × (length text ≡ 0))
end_or_not operator text End n h = inr (refl, ap length h.0)
end_or_not operator text Other n h = inl (λ e. cc, begins_some _ text h.0.visible)
end_or_not operator text Head n h = inl (λ e. cc, longest_some operator text Head n h)
end_or_not operator text Register n h = inl (λ e. cc, longest_some operator text Register n h)
end_or_not operator text Word n h = inl (λ e. cc, longest_some operator text Word n h)
end_or_not operator text Number n h = inl (λ e. cc, longest_some operator text Number n h)
end_or_not operator text Arrow n h = inl (λ e. cc, longest_some operator text Arrow n h)
end_or_not operator text Mark n h = inl (λ e. cc, longest_some operator text Mark n h)

begins_within : (operator : Bool) (text : List ℕ) (kind : RuleKind) (n : ℕ) → Begins operator text kind n → n ≤ length text
begins_within operator text End n h = let none : n ≡ 0 = h.1 in omega arith
begins_within operator text Other n h = let one : n ≡ 1 = h.1 in let some : 0 < length text = begins_some _ text h.0.visible in omega arith
begins_within operator text Head n h = h.within
begins_within operator text Register n h = h.within
begins_within operator text Word n h = h.within
begins_within operator text Number n h = h.within
begins_within operator text Arrow n h = h.within
begins_within operator text Mark n h = h.within

gap_before : (kind : RuleKind) (gap : List ℕ) → (kind ≢ End → IsGap gap) → (kind ≡ End → IsLastGap gap) → IsGapBefore kind gap
gap_before End gap g l = l refl
gap_before Other gap g l = g (λ e. cc)
gap_before Head gap g l = g (λ e. cc)
gap_before Register gap g l = g (λ e. cc)
gap_before Word gap g l = g (λ e. cc)
gap_before Number gap g l = g (λ e. cc)
gap_before Arrow gap g l = g (λ e. cc)
gap_before Mark gap g l = g (λ e. cc)

-- ---- at a place

-- the text between the two places is a gap, and one that may end the text where the second is its end
pub record Behind (text : List ℕ) (place start : ℕ) : Type 0 where
  pub order : (place ≤ start) × (start ≤ length text)
  pub gap : start < length text → IsGap (between text place start)
  pub last : start ≡ length text → IsLastGap (between text place start)

-- what stands there is the end of the text or not
pub ends_or_not : (operator : Bool) (text : List ℕ) (start : ℕ) (kind : RuleKind) (n : ℕ) → start ≤ length text → Begins operator (drop start text) kind n → ((kind ≢ End) × (start < length text)) ⊎ ((kind ≡ End) × (start ≡ length text))
ends_or_not operator text start kind n l h = ⊎_elim
    (λ (a : (kind ≢ End) × (0 < length (drop start text))). inl (a.0, omega (arith, a.1, length-drop start text)))
    (λ (a : (kind ≡ End) × (length (drop start text) ≡ 0)). inr (a.0, omega (arith, a.1, length-drop start text)))
    (end_or_not operator (drop start text) kind n h)

pub ends_within : (operator : Bool) (text : List ℕ) (start : ℕ) (kind : RuleKind) (n : ℕ) → start ≤ length text → Begins operator (drop start text) kind n → start + n ≤ length text
ends_within operator text start kind n l h = let le : n ≤ length (drop start text) = begins_within operator (drop start text) kind n h in omega (arith, length-drop start text)

pub next_bad : (text : List ℕ) (place start before passed : ℕ) → Behind text place start → before ≡ feeds (take place text) → passed ≡ feeds (between text place start) → begins_with is_bad (drop start text) ≡ true → IsBadNext text place (before + passed + 1)
next_bad text place start before passed b e f bad =
    let some : 0 < length (drop start text) = begins_some is_bad (drop start text) bad in
    record {
      start = start;
      order = b.order.0;
      gap = b.gap (omega (arith, length-drop start text));
      bad = bad;
      line_is = omega (arith, feeds_between text place start b.order.0);
    }

pub next_token : (operator front : Bool) (text : List ℕ) (place start n line : ℕ) (kind : RuleKind) → Behind text place start → front ≡ in_operator_place operator (between text place start) → Begins front (drop start text) kind n → line ≡ line_at kind text start → IsNextRuleToken operator text place (record { kind = kind; line = line; span = record { start = start; end = start + n } })
next_token operator front text place start n line kind b e h l = record {
  order = (b.order.0, omega arith, ends_within front text start kind n b.order.1 h);
  gap = gap_before kind (between text place start)
      (λ other. b.gap (⊎_elim (λ (a : (kind ≢ End) × (start < length text)). a.1) (λ (a : (kind ≡ End) × (start ≡ length text)). absurd (other a.0)) (ends_or_not front text start kind n b.order.1 h)))
      (λ end. b.last (⊎_elim (λ (a : (kind ≢ End) × (start < length text)). absurd (a.0 end)) (λ (a : (kind ≡ End) × (start ≡ length text)). a.1) (ends_or_not front text start kind n b.order.1 h)));
  token = subst (λ (m : ℕ). Begins (in_operator_place operator (between text place start)) (drop start text) kind m) count (subst (λ (o : Bool). Begins o (drop start text) kind n) e h);
  line = l;
}
  where
    count : n ≡ start + n - start
    count = omega arith

-- whether the token is in an operator's place
pub in_place : (operator front : Bool) (gap : List ℕ) (passed : ℕ) → operator ≡ true → passed ≡ feeds gap → front ≡ eqb passed 0 → front ≡ in_operator_place operator gap
in_place operator front gap passed o p f = rw o (f ∙ ap (λ (n : ℕ). eqb n 0) p)

pub in_no_place : (operator front : Bool) (gap : List ℕ) → operator ≡ false → front ≡ operator → front ≡ in_operator_place operator gap
in_no_place operator front gap o f = rw o (f ∙ o)

-- ---- a part of a line: bytes that pass a test which a line feed doesn't pass

pub no_feeds : (p : ℕ → Bool) (xs : List ℕ) → p 10 ≡ false → list_all p xs ≡ true → feeds xs ≡ 0
no_feeds p [] fails e = refl
no_feeds p (x ∷ xs) fails e = feeds_append (x ∷ []) xs ∙ ⊎_elim
    (λ (h : eqb x 10 ≡ true). absurd (false≢true (sym fails ∙ ap p (sym (eqb-true x 10 h)) ∙ and_left (p x) (list_all p xs) e)))
    (λ (h : eqb x 10 ≡ false). let none : feeds xs ≡ 0 = no_feeds p xs fails (and_right (p x) (list_all p xs) e) in rw h (omega arith))
    (which (eqb x 10))

pub run_within : (p : ℕ → Bool) (text : List ℕ) (place : ℕ) → place ≤ length text → place + length (take_while p (drop place text)) ≤ length text
run_within p text place h = omega (arith, length-take-le (prefix_len p (drop place text)) (drop place text) (prefix_len-le-length p (drop place text)), prefix_len-le-length p (drop place text), length-drop place text)

pub run_feeds : (p : ℕ → Bool) (text : List ℕ) (place : ℕ) → p 10 ≡ false → feeds (take (place + length (take_while p (drop place text))) text) ≡ feeds (take place text)
run_feeds p text place fails =
    let long : length (take_while p (drop place text)) ≡ prefix_len p (drop place text) = length-take-le (prefix_len p (drop place text)) (drop place text) (prefix_len-le-length p (drop place text)) in
    let far : place + length (take_while p (drop place text)) - place ≡ prefix_len p (drop place text) = omega arith in
    let none : feeds (between text place (place + length (take_while p (drop place text)))) ≡ 0 = ap (λ (n : ℕ). feeds (take n (drop place text))) far ∙ no_feeds p (take_while p (drop place text)) fails (run_passes p (drop place text)) in
    omega (arith, feeds_between text place (place + length (take_while p (drop place text))) (omega arith))

-- the rest of a line without its comment
pub rest_within : (text : List ℕ) (place : ℕ) → place ≤ length text → place + length (rest_of_line text place) ≤ length text
rest_within text place h = run_within is_in_rest text place h
