-- Texts of widths and of lists of widths.
use Rattle.command_line.proofs.Common.{◌≡◌, ◌≢◌, ℕ, suc, zero, ◌+◌, ◌<◌, ◌≤◌, ◌^◌, Bool, true, false, ◌&&◌, List, [], ◌∷◌, ◌++◌, Option, Some, None, Result, Ok, length, ap, ap₂, sym, refl, ◌∙◌, arith, get_or, nat_lt, ◌==◌, ◌-◌, filter, map, take, list_all, list_any, position_or_len, all_ascii_digits, ParsesUnsigned, digits_value, IsNumeralModel, numerals_by_value, tells_all_ascii_digits, parse_plain, parse_gives, both, list_any-map, nat_tests, OkIff-at_ok, le-leb, leb-true, items, names, is_width_list, widths_named, is_width, is_hyphen, is_item, last_of_item, number, up_to, begins_with_zero_or_plus, is_in, is_in_some, span_in, span_of, width_of, Span, Bor, take_more, map-append, filter-append, list_all_at, list_all_more, list_all-map}

own : IsNumeralModel (λ ds. all_ascii_digits ds ≡ true) (digits_value 10)
own = numerals_by_value _ tells_all_ascii_digits

-- what `is_width` tests
record IsWidth (text : List ℕ) : Type 0 where
  digits : all_ascii_digits text ≡ true
  least : 1 ≤ number text
  most : number text ≤ 64

parts : (text : List ℕ) → is_width text ≡ true → IsWidth text
parts text e =
    let a = both _ _ e in
    let b = both _ _ a.0 in
    let c = both _ _ b.0 in
    record { digits = c.0; least = leb-true _ _ b.1; most = leb-true _ _ a.1 }

not_empty : (text : List ℕ) → 1 ≤ number text → 0 < length text
not_empty [] h = absurd (omega arith)
not_empty (x ∷ xs) h = omega arith

none_of : (text : List ℕ) → (is_width text ≡ true → ⊥) → None ≡ width_of text
none_of text never = go (is_width text) refl
  where
    go : (b : Bool) → is_width text ≡ b → None ≡ width_of text
    go true e = absurd (never e)
    go false e = rw e refl

module _ {E : Type 0} (text : List ℕ) (r : Result ℕ E) (parsed : ParsesUnsigned 32 10 text r) where
  pub width_found : (n : ℕ) → begins_with_zero_or_plus text ≡ false → r ≡ Ok n → 1 ≤ n → n ≤ 64 → Some n ≡ width_of text
  width_found n first is least most =
      let plain : get_or text 0 0 ≢ 43 = λ e. grind (arith, nat_tests) in
      let read = OkIff-at_ok r _ _ n (parse_plain own 32 text r parsed plain) is in
      let same : n ≡ number text = read.1 in
      let digits : all_ascii_digits text ≡ true = read.0.0 in
      let zero_first : (get_or text 0 0 == 48) ≡ false = grind (arith, nat_tests) in
      rw (digits, zero_first, le-leb 1 (number text) (omega arith), le-leb (number text) 64 (omega arith)) (ap Some same)

  pub width_missed : ((n : ℕ) → r ≡ Ok n → 1 ≤ n → n ≤ 64 → ⊥) → None ≡ width_of text
  width_missed never = none_of text (λ e.
      let p = parts text e in
      let small : number text < 2 ^ 32 = omega (arith, p.most) in
      never (number text) (parse_gives own 32 text r parsed p.digits (not_empty text p.least) small) p.least p.most)

-- an item without a hyphen is both ends of its span
pub no_hyphen : (item : List ℕ) → position_or_len is_hyphen item ≡ length item → item ≡ last_of_item item
no_hyphen item e = rw (list_any-position is_hyphen item, e, ltb-refl (length item)) refl
  where
    list_any-position : (p : ℕ → Bool) (xs : List ℕ) → list_any p xs ≡ nat_lt (position_or_len p xs) (length xs)
    list_any-position p [] = refl
    list_any-position p (x ∷ xs) = rw (list_any-position p xs) (grind (arith, nat_tests))

    ltb-refl : (n : ℕ) → nat_lt n n ≡ false
    ltb-refl n = grind (arith, nat_tests)

-- the loop counts one number further
pub filter-up_to : (p : ℕ → Bool) (n : ℕ) → 1 ≤ n → filter p (up_to (n + 1 - 1)) ≡ filter p (up_to (n - 1)) ++ filter p (n ∷ [])
unfolding up_to
filter-up_to p zero h = absurd (omega arith)
filter-up_to p (suc k) h =
    let next : suc k + 1 - 1 ≡ suc k = omega arith in
    let last : suc k - 1 ≡ k = omega arith in
    rw (next, last) (filter-append p (up_to k) (suc k ∷ []))

pub filter-up_to_none : (p : ℕ → Bool) → filter p (up_to 0) ≡ []
unfolding up_to
filter-up_to_none p = refl

pub no_item : (item : List ℕ) (o : Option Span) → o ≡ span_of item → o ≡ None → is_item item ≡ false
no_item item o is none = go (is_item item) refl
  where
    go : (b : Bool) → is_item item ≡ b → is_item item ≡ false
    go true e = let bad : None ≡ Some (span_in item) = sym none ∙ is ∙ rw e refl in cc
    go false e = e

pub an_item : (item : List ℕ) (o : Option Span) (s : Span) → o ≡ span_of item → o ≡ Some s → (is_item item ≡ true) × (s ≡ span_in item)
an_item item o s is some = go (is_item item) refl
  where
    go : (b : Bool) → is_item item ≡ b → (is_item item ≡ true) × (s ≡ span_in item)
    go true e = let same : Some s ≡ Some (span_in item) = sym some ∙ is ∙ rw e refl in (e, cc)
    go false e = let bad : Some s ≡ None = sym some ∙ is ∙ rw e refl in cc

module _ (xs : List (Bor (List ℕ))) (i : ℕ) (x : Bor (List ℕ)) (lt : i < length xs) where
  pub items_fail : (o : Option Span) → o ≡ span_of (get_or xs i x).now → o ≡ None → list_all (λ item. is_item item.now) xs ≡ false
  items_fail o is none = list_all_at (λ item. is_item item.now) xs i x lt (no_item (get_or xs i x).now o is none)

  pub items_more : (o : Option Span) (s : Span) (spans : List Span) → o ≡ span_of (get_or xs i x).now → o ≡ Some s
      → (list_all (λ item. is_item item.now) (take i xs) ≡ true) × (spans ≡ map (λ item. span_in item.now) (take i xs))
      → (list_all (λ item. is_item item.now) (take (i + 1) xs) ≡ true) × (spans ++ s ∷ [] ≡ map (λ item. span_in item.now) (take (i + 1) xs))
  items_more o s spans is some so_far =
      let one = an_item (get_or xs i x).now o s is some in (
        list_all_more (λ item. is_item item.now) xs i x lt ∙ ap₂ (λ a b. a && b) so_far.0 one.0,
        ap₂ (λ a b. a ++ b ∷ []) so_far.1 one.1 ∙ sym (ap (map (λ item. span_in item.now)) (take_more xs i x lt) ∙ map-append (λ item. span_in item.now) (take i xs) (get_or xs i x ∷ [])),
      )

-- the items as texts, and as references in the code
module _ (refs : List (Bor (List ℕ))) (text : List ℕ) (same : map (λ item. item.now) refs ≡ items text) where
  pub form_of : list_all (λ item. is_item item.now) refs ≡ is_width_list text
  form_of = sym (list_all-map is_item (λ item. item.now) refs) ∙ ap (list_all is_item) same

  pub widths_of : (spans : List Span) → spans ≡ map (λ item. span_in item.now) refs → filter (is_in_some spans) (up_to 64) ≡ widths_named text
  widths_of spans is = ap (λ (f : ℕ → Bool). filter f (up_to 64)) (λ i w. at w i)
    where
      at : (w : ℕ) → is_in_some spans w ≡ list_any (names w) (items text)
      at w = ap (list_any (is_in w)) is ∙ (sym (list_any-map (is_in w) (λ item. span_in item.now) refs) ∙ (list_any-map (names w) (λ item. item.now) refs ∙ ap (list_any (names w)) same))
