-- A register has one use count, and a count of 1 means a single use.
use Rattle.use_counts.proofs.Common.{◌≡◌, ◌⊎◌, inl, inr, zero, suc, List, [], ◌∷◌, length, refl, sym, ap, subst, ◌∙◌, arith, AllPairs, Contains, Function, Register, CountOfOneIsOneUse, UseCountsAreOne, IsNamedAt, IsUsedOnce, UsePlace, StandsBefore, AreUsesOf}

-- ---- places in order

not_both : (x y : UsePlace) → StandsBefore x y → StandsBefore y x → ⊥
not_both x y (inl a) (inl b) = omega arith
not_both x y (inl a) (inr (e, b)) = omega arith
not_both x y (inr (e, a)) (inl b) = omega arith
not_both x y (inr (e, inl a)) (inr (g, inl b)) = omega arith
not_both x y (inr (e, inl a)) (inr (g, inr (h, b))) = omega arith
not_both x y (inr (e, inr (g, a))) (inr (h, inl b)) = omega arith
not_both x y (inr (e, inr (g, a))) (inr (h, inr (k, b))) = omega arith

nothing_in_nil : (x : UsePlace) → Contains {X = UsePlace} [] x → ⊥
nothing_in_nil x (k, within, is) = absurd (omega arith)

first_or_later : (x : UsePlace) (xs : List UsePlace) (y : UsePlace) → Contains (x ∷ xs) y → (y ≡ x) ⊎ Contains xs y
first_or_later x xs y (zero, within, is) = inl (sym is)
first_or_later x xs y (suc k, within, is) = inr (k, omega arith, is)

first : (x : UsePlace) (xs : List UsePlace) → Contains (x ∷ xs) x
first x xs = (zero, omega arith, refl)

later : (x : UsePlace) (xs : List UsePlace) (y : UsePlace) → Contains xs y → Contains (x ∷ xs) y
later x xs y (k, within, is) = (suc k, omega arith, is)

first_before : (x : UsePlace) (xs : List UsePlace) (y : UsePlace) → AllPairs StandsBefore (x ∷ xs) → Contains xs y → StandsBefore x y
first_before x xs y in_order (k, within, is) = subst (λ (z : UsePlace). StandsBefore x z) is (in_order 0 (suc k) y (omega arith) (omega arith))

tail_in_order : (x : UsePlace) (xs : List UsePlace) → AllPairs StandsBefore (x ∷ xs) → AllPairs StandsBefore xs
tail_in_order x xs in_order = λ i j d less within. in_order (suc i) (suc j) d (omega arith) (omega arith)

-- ordered lists that contain the same places have the same length
module _ (x y : UsePlace) (xs ys : List UsePlace) (xs_in_order : AllPairs StandsBefore (x ∷ xs)) (ys_in_order : AllPairs StandsBefore (y ∷ ys)) where
  same_first : Contains (y ∷ ys) x → Contains (x ∷ xs) y → x ≡ y
  same_first x_there y_there = elim (first_or_later y ys x x_there) [
    | inl same ↦ same
    | inr behind ↦ elim (first_or_later x xs y y_there) [
      | inl same ↦ sym same
      | inr too ↦ absurd (not_both x y (first_before x xs y xs_in_order too) (first_before y ys x ys_in_order behind))
    ]
  ]

  same_later : x ≡ y → (z : UsePlace) → (Contains (x ∷ xs) z → Contains (y ∷ ys) z) → Contains xs z → Contains ys z
  same_later same z there behind = elim (first_or_later y ys z (there (later x xs z behind))) [
    | inl is_y ↦
        let before : StandsBefore x x = subst (λ (w : UsePlace). StandsBefore x w) (is_y ∙ sym same) (first_before x xs z xs_in_order behind) in
        absurd (not_both x x before before)
    | inr too ↦ too
  ]

same_length : (xs ys : List UsePlace) → AllPairs StandsBefore xs → AllPairs StandsBefore ys → ((z : UsePlace) → Contains xs z → Contains ys z) → ((z : UsePlace) → Contains ys z → Contains xs z) → length xs ≡ length ys
same_length [] [] p q to back = refl
same_length [] (y ∷ ys) p q to back = absurd (nothing_in_nil y (back y (first y ys)))
same_length (x ∷ xs) [] p q to back = absurd (nothing_in_nil x (to x (first x xs)))
same_length (x ∷ xs) (y ∷ ys) p q to back =
    let same : x ≡ y = same_first x y xs ys p q (to x (first x xs)) (back y (first y ys)) in
    ap suc (same_length xs ys (tail_in_order x xs p) (tail_in_order y ys q)
    (λ z behind. same_later x y xs ys p q same z (to z) behind)
    (λ z behind. same_later y x ys xs q p (sym same) z (back z) behind))

-- two lists of the uses of one register contain the same places
moved : (f : Function) (register : Register) (xs ys : List UsePlace) → AreUsesOf f register xs → AreUsesOf f register ys → (z : UsePlace) → Contains xs z → Contains ys z
moved f register xs ys uses too (b, k, i) there = (too.each b k i).1 ((uses.each b k i).0 there)

pub use_counts_are_one : UseCountsAreOne
use_counts_are_one f register m n (xs, uses, count) (ys, too, number) =
    sym count ∙ same_length xs ys uses.in_order too.in_order (moved f register xs ys uses too) (moved f register ys xs too uses) ∙ number

-- ---- one use

lone : (f : Function) (register : Register) (xs : List UsePlace) → AreUsesOf f register xs → length xs ≡ 1 → IsUsedOnce f register
lone f register [] uses one = absurd (omega arith)
lone f register ((b, k, i) ∷ []) uses one = record {
  block = b;
  place = k;
  operand = i;
  there = (uses.each b k i).0 (first (b, k, i) []);
  only_there = λ c l j named. elim (first_or_later (b, k, i) [] (c, l, j) ((uses.each c l j).1 named)) [
    | inl same ↦ (ap (λ (z : UsePlace). z.0) same, ap (λ (z : UsePlace). z.1) same, ap (λ (z : UsePlace). z.2) same)
    | inr behind ↦ absurd (nothing_in_nil (c, l, j) behind)
  ];
}
lone f register (x ∷ y ∷ xs) uses one = absurd (omega arith)

alone_in_order : (x : UsePlace) → AllPairs StandsBefore (x ∷ [])
alone_in_order x = λ i j d less within. absurd (omega arith)

pub count_of_one : CountOfOneIsOneUse
count_of_one f register = (
  λ counted. lone f register counted.0 counted.1 counted.2,
  λ once. let x : UsePlace = (once.block, once.place, once.operand) in (
    x ∷ [],
    record {
      in_order = alone_in_order x;
      each = λ b k i. (
        λ there. elim (first_or_later x [] (b, k, i) there) [
          | inl same ↦ subst (λ (z : UsePlace). IsNamedAt f register z.0 z.1 z.2) (sym same) once.there
          | inr behind ↦ absurd (nothing_in_nil (b, k, i) behind)
        ],
        λ named. let same = once.only_there b k i named in let is : (b, k, i) ≡ x = cc in subst (λ (z : UsePlace). Contains (x ∷ []) z) (sym is) (first x []),
      );
    },
    refl,
  ),
)
