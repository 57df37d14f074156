-- What is known of one block is replaced: its row of entries gets longer, or one of its entries is written.
use Rattle.draft_bits.proofs.Common.{◌≡◌, ℕ, ◌<◌, ◌≤◌, ◌+◌, ◌++◌, ◌∷◌, [], List, length, get_or, Some, refl, sym, ap, subst, ◌∙◌, arith, inl, inr, All, slice_get, slice_set, cases_eq, cases_lt, length-set, get_or-set_other, get_or-set_same, get_or_from_slice_get, slice_get-get_or, slice_get_past, slice_get_within, All-push, All-set, get_or_append_left, length_push, KnownBit, Facts, DraftBits, HasSameBits, facts_at, results_at, AreGrown, IsLonger, IsPut, IsReplaced}

pub put_here : {X : Type 0} (xs : List X) (i : ℕ) (x : X) → i < length xs → slice_get (slice_set xs i x) i ≡ Some x
put_here xs i x within =
    let size = length-set xs i x in
    slice_get-get_or (slice_set xs i x) i x (omega (arith, size, within)) ∙ ap Some (get_or-set_same xs i x x within)

pub put_elsewhere : {X : Type 0} (xs : List X) (i : ℕ) (x : X) (k : ℕ) → ¬ (k ≡ i) → slice_get (slice_set xs i x) k ≡ slice_get xs k
put_elsewhere xs i x k other =
    let size = length-set xs i x in
    elim (cases_lt k (length xs)) [
      | inl less ↦ slice_get-get_or (slice_set xs i x) k x (omega (arith, size, less)) ∙ ap Some (get_or-set_other xs i k x x other) ∙ sym (slice_get-get_or xs k x less)
      | inr past ↦ slice_get_past (slice_set xs i x) k (omega (arith, size, past)) ∙ sym (slice_get_past xs k past)
    ]

module _ (old new : DraftBits) (b : ℕ) (was now : Facts) (is : IsReplaced b was now old.blocks.items new.blocks.items) (none : new.none ≡ old.none) where
  pub as_many : length new.blocks.items ≡ length old.blocks.items
  as_many = ap length is.is ∙ length-set old.blocks.items b now

  here : facts_at new b ≡ now
  here = ap (λ (l : List Facts). get_or l b new.none) is.is ∙ get_or-set_same old.blocks.items b now new.none (slice_get_within old.blocks.items b was is.there)

  was_here : facts_at old b ≡ was
  was_here = get_or_from_slice_get old.blocks.items b was old.none is.there

  elsewhere : (c : ℕ) → ¬ (c ≡ b) → facts_at new c ≡ facts_at old c
  elsewhere c other = ap (λ (l : List Facts). get_or l c new.none) is.is ∙ get_or-set_other old.blocks.items b c now new.none other ∙ ap (get_or old.blocks.items c) none

  -- what holds of the block that is replaced, and of each that stays, holds of all
  each : (P : Facts → Facts → Type 0) → P was now → ((x : Facts) → P x x) → (c : ℕ) → P (facts_at old c) (facts_at new c)
  each P this that c = elim (cases_eq c b) [
    | inl same ↦
        subst (λ (k : ℕ). P (facts_at old k) (facts_at new k)) (sym same)
        (subst (λ (x : Facts). P x (facts_at new b)) (sym was_here) (subst (P was) (sym here) this))
    | inr other ↦ subst (P (facts_at old c)) (sym (elsewhere c other)) (that (facts_at old c))
  ]

  abbrev Few : Facts → Type 0
  Few x = All (λ (word : List KnownBit). length word ≤ 64) x.results

  pub grown : (count : ℕ) → IsLonger count was now → AreGrown old new
  grown count longer = record {
    as_many = as_many;
    blocks = each (λ x y. y.block ≡ x.block) longer.block (λ x. refl);
    few = λ had c. each (λ x y. Few x → Few y) longer.few (λ x h. h) c (had c);
    longer = each (λ x y. length x.results ≤ length y.results) longer.longer (λ x. omega arith);
    kept = each (λ x y. (n : ℕ) → n < length x.results → slice_get y.results n ≡ slice_get x.results n) longer.kept (λ x n less. refl);
  }

  pub room : (count : ℕ) → IsLonger count was now → count ≤ length (results_at new b)
  room count longer = subst (λ (x : Facts). count ≤ length x.results) (sym here) longer.room

  module _ (number : ℕ) (word : List KnownBit) (put : IsPut number word was now) (within : number < length (results_at old b)) where
    inside : number < length was.results
    inside = subst (λ (x : Facts). number < length x.results) was_here within

    pub put_blocks : (c : ℕ) → (facts_at new c).block ≡ (facts_at old c).block
    put_blocks = each (λ x y. y.block ≡ x.block) put.block (λ x. refl)

    pub put_rows : (c : ℕ) → length (results_at new c) ≡ length (results_at old c)
    put_rows = each (λ x y. length y.results ≡ length x.results) (ap length put.results ∙ length-set was.results number word) (λ x. refl)

    pub put_few : length word ≤ 64 → ((c : ℕ) → Few (facts_at old c)) → (c : ℕ) → Few (facts_at new c)
    put_few short had c =
        each (λ x y. Few x → Few y)
        (λ few. subst (All (λ (w : List KnownBit). length w ≤ 64)) (sym put.results) (All-set (λ (w : List KnownBit). length w ≤ 64) was.results number word short few)) (λ x h. h) c (had c)

    pub put_there : slice_get (results_at new b) number ≡ Some word
    put_there = ap (λ (x : Facts). slice_get x.results number) here ∙ ap (λ (l : List (List KnownBit)). slice_get l number) put.results ∙ put_here was.results number word inside

    pub put_others : (c n : ℕ) → ¬ ((c ≡ b) × (n ≡ number)) → HasSameBits old new c n
    put_others c n other = elim (cases_eq c b) [
      | inr apart ↦ ap (λ (x : Facts). slice_get x.results n) (elsewhere c apart)
      | inl same ↦
          let entry : slice_get now.results n ≡ slice_get was.results n =
          ap (λ (l : List (List KnownBit)). slice_get l n) put.results ∙ put_elsewhere was.results number word n (λ e. other (same, e)) in
          subst (λ (k : ℕ). HasSameBits old new k n) (sym same)
          (ap (λ (x : Facts). slice_get x.results n) here ∙ entry ∙ sym (ap (λ (x : Facts). slice_get x.results n) was_here))
    ]

-- ---- a row that grows by empty words

pub longer_itself : (facts : Facts) (count : ℕ) → count ≡ length facts.results → IsLonger count facts facts
longer_itself facts count is = record { block = refl; few = λ few. few; longer = omega arith; kept = λ n less. refl; room = omega (arith, is) }

pub one_longer : (count : ℕ) (first was : Facts) (words : List (List KnownBit)) → IsLonger count first was → words ≡ was.results ++ [] ∷ [] → IsLonger (count + 1) first (record was { results = words })
one_longer count first was words h is =
    let size : length words ≡ length was.results + 1 = ap length is ∙ length_push was.results [] in
    record {
      block = h.block;
      few = λ few. subst (All (λ (word : List KnownBit). length word ≤ 64)) (sym is) (All-push (λ (word : List KnownBit). length word ≤ 64) was.results [] (h.few few) (omega arith));
      longer = omega (arith, size, h.longer);
      kept = λ n less. ap (λ (l : List (List KnownBit)). slice_get l n) is ∙ kept_front was.results n (omega (arith, less, h.longer)) ∙ h.kept n less;
      room = omega (arith, size, h.room);
    }
  where
    kept_front : (xs : List (List KnownBit)) (n : ℕ) → n < length xs → slice_get (xs ++ [] ∷ []) n ≡ slice_get xs n
    kept_front xs n less = slice_get-get_or (xs ++ [] ∷ []) n [] (omega (arith, less, length_push xs [])) ∙ ap Some (get_or_append_left xs ([] ∷ []) [] n less) ∙ sym (slice_get-get_or xs n [] less)

pub at_last : (count wanted : ℕ) (first now : Facts) → wanted ≤ count → IsLonger count first now → IsLonger wanted first now
at_last count wanted first now over h = record { block = h.block; few = h.few; longer = h.longer; kept = h.kept; room = omega (arith, over, h.room) }
