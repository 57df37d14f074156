-- The positions of numbers in a row, once others are inserted or removed.
use Rattle.draft_steps.proofs.Common.{◌≡◌, ◌≢◌, ℕ, suc, ◌+◌, ◌<◌, ◌⊎◌, inl, inr, Bool, true, false, cond, List, [], ◌∷◌, ◌++◌, length, Some, refl, sym, ap, subst, ◌∙◌, arith, Contains, slice_get, filter, cases_eq, eq-eqb, ne_eqb, cases_in, first_in, later_in, not_in_empty, KeptMarks, kept_before}
use Rattle.places.specs.Orders.{place_in}

pub place_here : (m : ℕ) (row : List ℕ) (n : ℕ) → m ≡ n → place_in (m ∷ row) n ≡ 0
place_here m row n same = ap (λ c. cond c 0 (suc (place_in row n))) (eq-eqb m n same)

pub place_later : (m : ℕ) (row : List ℕ) (n : ℕ) → m ≢ n → place_in (m ∷ row) n ≡ suc (place_in row n)
place_later m row n ne = ap (λ c. cond c 0 (suc (place_in row n))) (ne_eqb m n ne)

-- it is among them
abbrev pub IsIn : List ℕ → ℕ → Type 0
IsIn row n = place_in row n < length row

-- it isn't
abbrev pub IsOut : List ℕ → ℕ → Type 0
IsOut row n = place_in row n ≡ length row

up : (p q l : ℕ) → p ≡ suc q → q < l → p < suc l
up p q l e lt = omega arith

up_to : (p q l : ℕ) → p ≡ suc q → q ≡ l → p ≡ suc l
up_to p q l e last = omega arith

down : (p q l : ℕ) → p ≡ suc q → p < suc l → q < l
down p q l e lt = omega arith

down_to : (p q l : ℕ) → p ≡ suc q → p ≡ suc l → q ≡ l
down_to p q l e last = omega arith

not_none : (p l : ℕ) → p ≡ 0 → p ≡ suc l → ⊥
not_none p l none last = omega arith

some : (p l : ℕ) → p ≡ 0 → p < suc l
some p l none = omega arith

pub in_or_out : (row : List ℕ) (n : ℕ) → IsIn row n ⊎ IsOut row n
in_or_out [] n = inr refl
in_or_out (m ∷ row) n =
    elim (cases_eq m n) [
      | inl same ↦ inl (some (place_in (m ∷ row) n) (length row) (place_here m row n same))
      | inr ne ↦ elim (in_or_out row n) [
        | inl there ↦ inl (up (place_in (m ∷ row) n) (place_in row n) (length row) (place_later m row n ne) there)
        | inr out ↦ inr (up_to (place_in (m ∷ row) n) (place_in row n) (length row) (place_later m row n ne) out)
      ]
    ]

pub contained : (row : List ℕ) (n : ℕ) → IsIn row n → Contains row n
contained [] n there = absurd (let lt : 0 < 0 = there in omega arith)
contained (m ∷ row) n there =
    elim (cases_eq m n) [
      | inl same ↦ subst (Contains (m ∷ row)) same (first_in m row)
      | inr ne ↦ later_in m row n (contained row n (down (place_in (m ∷ row) n) (place_in row n) (length row) (place_later m row n ne) there))
    ]

pub is_in : (row : List ℕ) (n : ℕ) → Contains row n → IsIn row n
is_in [] n has = absurd (not_in_empty n has)
is_in (m ∷ row) n has =
    elim (cases_eq m n) [
      | inl same ↦ some (place_in (m ∷ row) n) (length row) (place_here m row n same)
      | inr ne ↦ elim (cases_in m row n has) [
        | inl same ↦ absurd (ne same)
        | inr later ↦ up (place_in (m ∷ row) n) (place_in row n) (length row) (place_later m row n ne) (is_in row n later)
      ]
    ]

pub at_place : (row : List ℕ) (n : ℕ) → IsIn row n → slice_get row (place_in row n) ≡ Some n
at_place [] n there = absurd (let lt : 0 < 0 = there in omega arith)
at_place (m ∷ row) n there =
    elim (cases_eq m n) [
      | inl same ↦ ap (slice_get (m ∷ row)) (place_here m row n same) ∙ ap (λ x. Some x) same
      | inr ne ↦ ap (slice_get (m ∷ row)) (place_later m row n ne) ∙ at_place row n (down (place_in (m ∷ row) n) (place_in row n) (length row) (place_later m row n ne) there)
    ]

-- numbers of a row at one position are the same
pub one_place : (row : List ℕ) (j k : ℕ) → IsIn row j → place_in row j ≡ place_in row k → j ≡ k
one_place [] j k there same = absurd (let lt : 0 < 0 = there in omega arith)
one_place (m ∷ row) j k there same =
    elim (cases_eq m j) [
      | inl is ↦ elim (cases_eq m k) [
        | inl also ↦ sym is ∙ also
        | inr ne ↦ absurd (not_none (place_in (m ∷ row) j) (place_in row k) (place_here m row j is) (same ∙ place_later m row k ne))
      ]
      | inr differs ↦ elim (cases_eq m k) [
        | inl also ↦ absurd (not_none (place_in (m ∷ row) k) (place_in row j) (place_here m row k also) (sym same ∙ place_later m row j differs))
        | inr ne ↦
            let next : suc (place_in row j) ≡ suc (place_in row k) = sym (place_later m row j differs) ∙ (same ∙ place_later m row k ne) in
            one_place row j k (down (place_in (m ∷ row) j) (place_in row j) (length row) (place_later m row j differs) there) (by (place_in row j) (place_in row k) next)
      ]
    ]
  where
    by : (p q : ℕ) → suc p ≡ suc q → p ≡ q
    by p q e = omega arith

-- ---- one row behind another

pub place_left : (xs ys : List ℕ) (n : ℕ) → IsIn xs n → place_in (xs ++ ys) n ≡ place_in xs n
place_left [] ys n there = absurd (let lt : 0 < 0 = there in omega arith)
place_left (m ∷ xs) ys n there =
    elim (cases_eq m n) [
      | inl same ↦ place_here m (xs ++ ys) n same ∙ sym (place_here m xs n same)
      | inr ne ↦
          place_later m (xs ++ ys) n ne
          ∙ (ap suc (place_left xs ys n (down (place_in (m ∷ xs) n) (place_in xs n) (length xs) (place_later m xs n ne) there)) ∙ sym (place_later m xs n ne))
    ]

pub place_right : (xs ys : List ℕ) (n : ℕ) → IsOut xs n → place_in (xs ++ ys) n ≡ length xs + place_in ys n
place_right [] ys n out = by (place_in ys n)
  where
    by : (p : ℕ) → p ≡ 0 + p
    by p = omega arith
place_right (m ∷ xs) ys n out =
    elim (cases_eq m n) [
      | inl same ↦ absurd (not_none (place_in (m ∷ xs) n) (length xs) (place_here m xs n same) out)
      | inr ne ↦
          place_later m (xs ++ ys) n ne
          ∙ (ap suc (place_right xs ys n (down_to (place_in (m ∷ xs) n) (place_in xs n) (length xs) (place_later m xs n ne) out)) ∙ by (length xs) (place_in ys n))
    ]
  where
    by : (a b : ℕ) → suc (a + b) ≡ suc a + b
    by a b = omega arith

-- the numbers before one of them, and those behind it
pub record IsSplit (row : List ℕ) (n : ℕ) : Type 0 where
  pub before : List ℕ
  pub after : List ℕ
  pub is : row ≡ before ++ n ∷ after
  pub first : IsOut before n

pub split : (row : List ℕ) (n : ℕ) → IsIn row n → IsSplit row n
split [] n there = absurd (let lt : 0 < 0 = there in omega arith)
split (m ∷ row) n there =
    elim (cases_eq m n) [
      | inl same ↦ record { before = []; after = row; is = ap (λ k. k ∷ row) same; first = refl }
      | inr ne ↦
          let rest : IsSplit row n = split row n (down (place_in (m ∷ row) n) (place_in row n) (length row) (place_later m row n ne) there) in
          record {
            before = m ∷ rest.before;
            after = rest.after;
            is = ap (λ l. m ∷ l) rest.is;
            first = up_to (place_in (m ∷ rest.before) n) (place_in rest.before n) (length rest.before) (place_later m rest.before n ne) rest.first;
          }
    ]

pub place_split : (before after : List ℕ) (n : ℕ) → IsOut before n → place_in (before ++ n ∷ after) n ≡ length before
place_split before after n out = place_right before (n ∷ after) n out ∙ by (place_in (n ∷ after) n) (place_here n after n refl)
  where
    by : (p : ℕ) → p ≡ 0 → length before + p ≡ length before
    by p none = omega arith

-- ---- those that are kept

kept_more : (keep : ℕ → Bool) (m : ℕ) (row : List ℕ) → keep m ≡ true → filter keep (m ∷ row) ≡ m ∷ filter keep row
kept_more keep m row e = ap (λ c. cond c (m ∷ filter keep row) (filter keep row)) e

kept_same : (keep : ℕ → Bool) (m : ℕ) (row : List ℕ) → keep m ≡ false → filter keep (m ∷ row) ≡ filter keep row
kept_same keep m row e = ap (λ c. cond c (m ∷ filter keep row) (filter keep row)) e

-- a number of the filtered row is one of the row, and is kept
pub kept_of : (keep : ℕ → Bool) (row : List ℕ) (n : ℕ) → Contains (filter keep row) n → Contains row n × (keep n ≡ true)
kept_of keep [] n has = absurd (not_in_empty n has)
kept_of keep (m ∷ row) n has =
    elim (keep m) as (λ c. keep m ≡ c → Contains (m ∷ row) n × (keep n ≡ true)) [
      | true ↦ λ e. elim (cases_in m (filter keep row) n (subst (λ (l : List ℕ). Contains l n) (kept_more keep m row e) has)) [
        | inl same ↦ (subst (Contains (m ∷ row)) same (first_in m row), subst (λ (k : ℕ). keep k ≡ true) same e)
        | inr later ↦ let rest = kept_of keep row n later in (later_in m row n rest.0, rest.1)
      ]
      | false ↦ λ e. let rest = kept_of keep row n (subst (λ (l : List ℕ). Contains l n) (kept_same keep m row e) has) in (later_in m row n rest.0, rest.1)
    ] refl

pub kept_in : (keep : ℕ → Bool) (row : List ℕ) (n : ℕ) → Contains row n → keep n ≡ true → Contains (filter keep row) n
kept_in keep [] n has is = absurd (not_in_empty n has)
kept_in keep (m ∷ row) n has is =
    elim (keep m) as (λ c. keep m ≡ c → Contains (filter keep (m ∷ row)) n) [
      | true ↦ λ e. subst (λ (l : List ℕ). Contains l n) (sym (kept_more keep m row e)) (elim (cases_in m row n has) [
        | inl same ↦ subst (Contains (m ∷ filter keep row)) same (first_in m (filter keep row))
        | inr later ↦ later_in m (filter keep row) n (kept_in keep row n later is)
      ])
      | false ↦ λ e. subst (λ (l : List ℕ). Contains l n) (sym (kept_same keep m row e)) (elim (cases_in m row n has) [
        | inl same ↦ absurd (let clash : true ≡ false = sym is ∙ (ap keep (sym same) ∙ e) in cc)
        | inr later ↦ kept_in keep row n later is
      ])
    ] refl

-- Marks say for each position whether the number there is kept. The position of a kept number is then how many are kept
-- before it.
module _ (kept : KeptMarks) (b : ℕ) (keep : ℕ → Bool) where
  abbrev pub Marks : ℕ → List ℕ → Type 0
  Marks j row = (i n : ℕ) → slice_get row i ≡ Some n → kept b (j + i) ≡ keep n

  pub marks_here : (j m : ℕ) (row : List ℕ) → Marks j (m ∷ row) → kept b j ≡ keep m
  marks_here j m row marks = let here : j ≡ j + 0 = omega arith in ap (kept b) here ∙ marks 0 m refl

  pub marks_later : (j m : ℕ) (row : List ℕ) → Marks j (m ∷ row) → Marks (suc j) row
  marks_later j m row marks = λ i n at. let next : suc j + i ≡ j + suc i = omega arith in ap (kept b) next ∙ marks (suc i) n at

  pub place_kept : (j : ℕ) (row : List ℕ) (n : ℕ) → Marks j row → IsIn row n → keep n ≡ true → place_in (filter keep row) n + kept_before kept b j ≡ kept_before kept b (j + place_in row n)
  place_kept j [] n marks there is = absurd (let lt : 0 < 0 = there in omega arith)
  place_kept j (m ∷ row) n marks there is =
      elim (cases_eq m n) [
        | inl same ↦
            let keeps : keep m ≡ true = ap keep same ∙ is in
            let first : place_in (filter keep (m ∷ row)) n ≡ 0 = ap (λ (l : List ℕ). place_in l n) (kept_more keep m row keeps) ∙ place_here m (filter keep row) n same in
            begin_same (place_in (filter keep (m ∷ row)) n) (place_in (m ∷ row) n) first (place_here m row n same)
        | inr ne ↦
            let further : IsIn row n = down (place_in (m ∷ row) n) (place_in row n) (length row) (place_later m row n ne) there in
            let rest : place_in (filter keep row) n + kept_before kept b (suc j) ≡ kept_before kept b (suc j + place_in row n) = place_kept (suc j) row n (marks_later j m row marks) further is in
            let end : kept_before kept b (suc j + place_in row n) ≡ kept_before kept b (j + place_in (m ∷ row) n) = ap (kept_before kept b) (next (place_in (m ∷ row) n) (place_in row n) (place_later m row n ne)) in
            let count : kept_before kept b (suc j) ≡ cond (keep m) 1 0 + kept_before kept b j = ap (λ c. cond c 1 0 + kept_before kept b j) (marks_here j m row marks) in
            elim (keep m) as (λ c. keep m ≡ c → place_in (filter keep (m ∷ row)) n + kept_before kept b j ≡ kept_before kept b (j + place_in (m ∷ row) n)) [
              | true ↦ λ e.
                  let one : kept_before kept b (suc j) ≡ 1 + kept_before kept b j = count ∙ ap (λ c. cond c 1 0 + kept_before kept b j) e in
                  let more : place_in (filter keep (m ∷ row)) n ≡ suc (place_in (filter keep row) n) = ap (λ (l : List ℕ). place_in l n) (kept_more keep m row e) ∙ place_later m (filter keep row) n ne in
                  sums (place_in (filter keep (m ∷ row)) n) (place_in (filter keep row) n) (kept_before kept b j) (kept_before kept b (suc j)) _ _ more one rest end
              | false ↦ λ e.
                  let none : kept_before kept b (suc j) ≡ 0 + kept_before kept b j = count ∙ ap (λ c. cond c 1 0 + kept_before kept b j) e in
                  let same : place_in (filter keep (m ∷ row)) n ≡ place_in (filter keep row) n = ap (λ (l : List ℕ). place_in l n) (kept_same keep m row e) in
                  stays (place_in (filter keep (m ∷ row)) n) (place_in (filter keep row) n) (kept_before kept b j) (kept_before kept b (suc j)) _ _ same none rest end
            ] refl
      ]
    where
      begin_same : (p q : ℕ) → p ≡ 0 → q ≡ 0 → p + kept_before kept b j ≡ kept_before kept b (j + q)
      begin_same p q none nothing = let here : j ≡ j + q = omega arith in let first : p + kept_before kept b j ≡ kept_before kept b j = omega arith in first ∙ ap (kept_before kept b) here

      next : (p q : ℕ) → p ≡ suc q → suc j + q ≡ j + p
      next p q e = omega arith

      sums : (p q c d end last : ℕ) → p ≡ suc q → d ≡ 1 + c → q + d ≡ end → end ≡ last → p + c ≡ last
      sums p q c d end last a e r s = omega arith

      stays : (p q c d end last : ℕ) → p ≡ q → d ≡ 0 + c → q + d ≡ end → end ≡ last → p + c ≡ last
      stays p q c d end last a e r s = omega arith
