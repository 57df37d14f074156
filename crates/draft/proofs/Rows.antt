-- The numbers of a block that stand, and its numbers with one inserted or removed.
use Rattle.draft.proofs.Common.{◌≡◌, ◌⊎◌, ◌↔◌, inl, inr, ℕ, zero, suc, ◌+◌, ◌-◌, ◌<◌, Bool, true, false, cond, eqb, List, [], ◌∷◌, ◌++◌, length, get_or, slice_set, take, Option, None, Some, refl, sym, ap, subst, ◌∙◌, arith, get_or-set_other, get_or-set_same, Contains, slice_get, cases_Bool, cases_eq, cases_lt, cond-false, cond-true, eq-eqb, ne_eqb, append_assoc, get_or_append_left, get_or_past, get_or_push, take_all, take_more, get_or_from_slice_get, none-some, same_Some, slice_get_cases, slice_get_within, contained_at, contains_at, contains_first, changed_at, without, standing, standing_in, place_in, put_before, IsOrdering}
use Rattle.std.proofs.lemmas.List.{length-set}
use Rattle.needed.proofs.Counting.{contains_later}

abbrev pub marked : List Bool → ℕ → Bool
marked stand n = get_or stand n false

-- ---- which numbers stand

nothing_in : {A : Type 0} (x : A) → Contains {X = A} [] x → ⊥
nothing_in x (k, within, is) = absurd (omega arith)

pub first_or_later : {A : Type 0} (x : A) (xs : List A) (y : A) → Contains (x ∷ xs) y → (y ≡ x) ⊎ Contains xs y
first_or_later x xs y (zero, within, is) = inl (sym is)
first_or_later x xs y (suc k, within, is) = inr (k, omega arith, is)

-- where the first number is marked it is among those that stand, and else it isn't
pub first_stands : (stand : List Bool) (n : ℕ) (numbers : List ℕ) → marked stand n ≡ true → standing_in stand (n ∷ numbers) ≡ n ∷ standing_in stand numbers
first_stands stand n numbers marked_so = ap (λ (t : Bool). cond t (n ∷ []) [] ++ standing_in stand numbers) marked_so

pub first_gone : (stand : List Bool) (n : ℕ) (numbers : List ℕ) → marked stand n ≡ false → standing_in stand (n ∷ numbers) ≡ standing_in stand numbers
first_gone stand n numbers unmarked = ap (λ (t : Bool). cond t (n ∷ []) [] ++ standing_in stand numbers) unmarked

pub stands_is : (stand : List Bool) (numbers : List ℕ) (n : ℕ) → Contains (standing_in stand numbers) n → Contains numbers n × (marked stand n ≡ true)
stands_is stand [] n h = absurd (nothing_in n h)
stands_is stand (m ∷ numbers) n h = elim (cases_Bool (marked stand m)) [
  | inl marked_so ↦ elim (first_or_later m (standing_in stand numbers) n (subst (λ (l : List ℕ). Contains l n) (first_stands stand m numbers marked_so) h)) [
    | inl same ↦ (subst (λ (k : ℕ). Contains (m ∷ numbers) k) (sym same) (contains_first m numbers), ap (marked stand) same ∙ marked_so)
    | inr later ↦ let (there, is) = stands_is stand numbers n later in (contains_later m numbers n there, is)
  ]
  | inr unmarked ↦ let (there, is) = stands_is stand numbers n (subst (λ (l : List ℕ). Contains l n) (first_gone stand m numbers unmarked) h) in (contains_later m numbers n there, is)
]

pub is_standing : (stand : List Bool) (numbers : List ℕ) (n : ℕ) → Contains numbers n → marked stand n ≡ true → Contains (standing_in stand numbers) n
is_standing stand [] n h marked_so = absurd (nothing_in n h)
is_standing stand (m ∷ numbers) n h marked_so = elim (first_or_later m numbers n h) [
  | inl same ↦
      let first : marked stand m ≡ true = ap (marked stand) (sym same) ∙ marked_so in
      subst (λ (l : List ℕ). Contains l n) (sym (first_stands stand m numbers first)) (subst (λ (k : ℕ). Contains (m ∷ standing_in stand numbers) k) (sym same) (contains_first m (standing_in stand numbers)))
  | inr later ↦
      let rest : Contains (standing_in stand numbers) n = is_standing stand numbers n later marked_so in
      elim (cases_Bool (marked stand m)) [
        | inl first ↦ subst (λ (l : List ℕ). Contains l n) (sym (first_stands stand m numbers first)) (contains_later m (standing_in stand numbers) n rest)
        | inr unmarked ↦ subst (λ (l : List ℕ). Contains l n) (sym (first_gone stand m numbers unmarked)) rest
      ]
]

-- ---- places

pub place_first : (m n : ℕ) (numbers : List ℕ) → m ≡ n → place_in (m ∷ numbers) n ≡ 0
place_first m n numbers same = cond-true (eqb m n) 0 (suc (place_in numbers n)) (eq-eqb m n same)

pub place_later : (m n : ℕ) (numbers : List ℕ) → (m ≡ n → ⊥) → place_in (m ∷ numbers) n ≡ suc (place_in numbers n)
place_later m n numbers apart = cond-false (eqb m n) 0 (suc (place_in numbers n)) (ne_eqb m n apart)

-- two numbers that stand have the same order among those that stand
pub same_order : (stand : List Bool) (numbers : List ℕ) (n m : ℕ) → marked stand n ≡ true → marked stand m ≡ true
    → (place_in numbers n < place_in numbers m) ↔ (place_in (standing_in stand numbers) n < place_in (standing_in stand numbers) m)
same_order stand [] n m yes_n yes_m = (λ h. h, λ h. h)
same_order stand (x ∷ numbers) n m yes_n yes_m =
    let all = standing_in stand (x ∷ numbers) in
    let rest = standing_in stand numbers in
    elim (cases_eq x n) [
      | inl is_n ↦
          let here = first_stands stand x numbers (ap (marked stand) is_n ∙ yes_n) in
          let n_there : place_in all n ≡ 0 = ap (λ (l : List ℕ). place_in l n) here ∙ place_first x n rest is_n in
          let n_here = place_first x n numbers is_n in
          elim (cases_eq x m) [
            | inl is_m ↦
                let m_there : place_in all m ≡ 0 = ap (λ (l : List ℕ). place_in l m) here ∙ place_first x m rest is_m in
                let m_here = place_first x m numbers is_m in
                (λ h. absurd (omega arith), λ h. absurd (omega arith))
            | inr not_m ↦
                let m_there : place_in all m ≡ suc (place_in rest m) = ap (λ (l : List ℕ). place_in l m) here ∙ place_later x m rest not_m in
                let m_here = place_later x m numbers not_m in
                (λ h. omega arith, λ h. omega arith)
          ]
      | inr not_n ↦
          let n_here = place_later x n numbers not_n in
          elim (cases_eq x m) [
            | inl is_m ↦
                let here = first_stands stand x numbers (ap (marked stand) is_m ∙ yes_m) in
                let m_there : place_in all m ≡ 0 = ap (λ (l : List ℕ). place_in l m) here ∙ place_first x m rest is_m in
                let m_here = place_first x m numbers is_m in
                (λ h. absurd (omega arith), λ h. absurd (omega arith))
            | inr not_m ↦
                let m_here = place_later x m numbers not_m in
                let (there, back) = same_order stand numbers n m yes_n yes_m in
                elim (cases_Bool (marked stand x)) [
                  | inl marked_so ↦
                      let here = first_stands stand x numbers marked_so in
                      let n_there : place_in all n ≡ suc (place_in rest n) = ap (λ (l : List ℕ). place_in l n) here ∙ place_later x n rest not_n in
                      let m_there : place_in all m ≡ suc (place_in rest m) = ap (λ (l : List ℕ). place_in l m) here ∙ place_later x m rest not_m in
                      (λ h. let less = there (omega arith) in omega arith, λ h. let less = back (omega arith) in omega arith)
                  | inr unmarked ↦
                      let here = first_gone stand x numbers unmarked in
                      let n_there : place_in all n ≡ place_in rest n = ap (λ (l : List ℕ). place_in l n) here in
                      let m_there : place_in all m ≡ place_in rest m = ap (λ (l : List ℕ). place_in l m) here in
                      (λ h. let less = there (omega arith) in omega arith, λ h. let less = back (omega arith) in omega arith)
                ]
          ]
    ]

-- ---- one more

abbrev pub AreBelow : ℕ → List ℕ → Type 0
AreBelow count numbers = (k n : ℕ) → slice_get numbers k ≡ Some n → n < count

below_rest : (count m : ℕ) (numbers : List ℕ) → AreBelow count (m ∷ numbers) → AreBelow count numbers
below_rest count m numbers below k n at = below (suc k) n at

put_first : (m at n : ℕ) (numbers : List ℕ) → m ≡ at → put_before (m ∷ numbers) at n ≡ n ∷ m ∷ numbers
put_first m at n numbers same = cond-true (eqb m at) (n ∷ m ∷ numbers) (m ∷ put_before numbers at n) (eq-eqb m at same)

put_later : (m at n : ℕ) (numbers : List ℕ) → (m ≡ at → ⊥) → put_before (m ∷ numbers) at n ≡ m ∷ put_before numbers at n
put_later m at n numbers apart = cond-false (eqb m at) (n ∷ m ∷ numbers) (m ∷ put_before numbers at n) (ne_eqb m at apart)

module _ (stand : List Bool) where
  abbrev one_more : List Bool
  one_more = stand ++ true ∷ []

  still_marked : (n : ℕ) → n < length stand → marked one_more n ≡ marked stand n
  still_marked n within = get_or_append_left stand (true ∷ []) false n within

  pub still_standing : (numbers : List ℕ) → AreBelow (length stand) numbers → standing_in one_more numbers ≡ standing_in stand numbers
  still_standing [] below = refl
  still_standing (m ∷ numbers) below =
      ap (λ (t : Bool). cond t (m ∷ []) [] ++ standing_in one_more numbers) (still_marked m (below 0 m refl))
      ∙ ap (λ (l : List ℕ). cond (marked stand m) (m ∷ []) [] ++ l) (still_standing numbers (below_rest (length stand) m numbers below))

  pub put_standing : (numbers : List ℕ) (at n : ℕ) → n ≡ length stand → AreBelow (length stand) numbers → marked stand at ≡ true
      → standing_in one_more (put_before numbers at n) ≡ put_before (standing_in stand numbers) at n
  put_standing [] at n is below marked_so = refl
  put_standing (m ∷ numbers) at n is below marked_so =
      let rest = standing_in stand numbers in
      let same_mark = still_marked m (below 0 m refl) in
      elim (cases_eq m at) [
        | inl same ↦
            let first : marked stand m ≡ true = ap (marked stand) same ∙ marked_so in
            let new : marked one_more n ≡ true = get_or_push stand true false n (sym is) in
            ap (standing_in one_more) (put_first m at n numbers same)
            ∙ first_stands one_more n (m ∷ numbers) new
            ∙ ap (λ (l : List ℕ). n ∷ l) (first_stands one_more m numbers (same_mark ∙ first) ∙ ap (λ (l : List ℕ). m ∷ l) (still_standing numbers (below_rest (length stand) m numbers below)))
            ∙ sym (ap (λ (l : List ℕ). put_before l at n) (first_stands stand m numbers first) ∙ put_first m at n rest same)
        | inr apart ↦
            let later = put_standing numbers at n is (below_rest (length stand) m numbers below) marked_so in
            elim (cases_Bool (marked stand m)) [
              | inl first ↦
                  ap (standing_in one_more) (put_later m at n numbers apart)
                  ∙ first_stands one_more m (put_before numbers at n) (same_mark ∙ first)
                  ∙ ap (λ (l : List ℕ). m ∷ l) later
                  ∙ sym (ap (λ (l : List ℕ). put_before l at n) (first_stands stand m numbers first) ∙ put_later m at n rest apart)
              | inr unmarked ↦
                  ap (standing_in one_more) (put_later m at n numbers apart)
                  ∙ first_gone one_more m (put_before numbers at n) (same_mark ∙ unmarked)
                  ∙ later
                  ∙ sym (ap (λ (l : List ℕ). put_before l at n) (first_gone stand m numbers unmarked))
            ]
      ]

-- with one inserted the numbers are that one and those that there were
pub put_contains : (numbers : List ℕ) (at n k : ℕ) → Contains (put_before numbers at n) k → Contains numbers k ⊎ (k ≡ n)
put_contains [] at n k h = absurd (nothing_in k h)
put_contains (m ∷ numbers) at n k h = elim (cases_eq m at) [
  | inl same ↦ elim (first_or_later n (m ∷ numbers) k (subst (λ (l : List ℕ). Contains l k) (put_first m at n numbers same) h)) [
    | inl this ↦ inr this
    | inr old ↦ inl old
  ]
  | inr apart ↦ elim (first_or_later m (put_before numbers at n) k (subst (λ (l : List ℕ). Contains l k) (put_later m at n numbers apart) h)) [
    | inl first ↦ inl (subst (λ (j : ℕ). Contains (m ∷ numbers) j) (sym first) (contains_first m numbers))
    | inr later ↦ elim (put_contains numbers at n k later) [
      | inl old ↦ inl (contains_later m numbers k old)
      | inr this ↦ inr this
    ]
  ]
]

pub put_keeps : (numbers : List ℕ) (at n k : ℕ) → Contains numbers k → Contains (put_before numbers at n) k
put_keeps [] at n k h = absurd (nothing_in k h)
put_keeps (m ∷ numbers) at n k h = elim (cases_eq m at) [
  | inl same ↦ subst (λ (l : List ℕ). Contains l k) (sym (put_first m at n numbers same)) (contains_later n (m ∷ numbers) k h)
  | inr apart ↦ subst (λ (l : List ℕ). Contains l k) (sym (put_later m at n numbers apart)) (elim (first_or_later m numbers k h) [
    | inl first ↦ subst (λ (j : ℕ). Contains (m ∷ put_before numbers at n) j) (sym first) (contains_first m (put_before numbers at n))
    | inr later ↦ contains_later m (put_before numbers at n) k (put_keeps numbers at n k later)
  ])
]

pub put_there : (numbers : List ℕ) (at n : ℕ) → Contains numbers at → Contains (put_before numbers at n) n × (length (put_before numbers at n) ≡ suc (length numbers))
put_there [] at n h = absurd (nothing_in at h)
put_there (m ∷ numbers) at n h = elim (cases_eq m at) [
  | inl same ↦
      let is = put_first m at n numbers same in
      (subst (λ (l : List ℕ). Contains l n) (sym is) (contains_first n (m ∷ numbers)), ap length is)
  | inr apart ↦
      let is = put_later m at n numbers apart in
      elim (first_or_later m numbers at h) [
        | inl first ↦ absurd (apart (sym first))
        | inr later ↦
            let (there, count) = put_there numbers at n later in
            (subst (λ (l : List ℕ). Contains l n) (sym is) (contains_later m (put_before numbers at n) n there), ap length is ∙ ap suc count)
      ]
]

-- ---- each once

abbrev pub Distinct : List ℕ → Type 0
Distinct [] = Unit {0}
Distinct (n ∷ numbers) = ¬ Contains numbers n × Distinct numbers

abbrev pub AreOnce : List ℕ → Type 0
AreOnce numbers = (k n : ℕ) → slice_get numbers k ≡ Some n → place_in numbers n ≡ k

once_rest : (m : ℕ) (numbers : List ℕ) → AreOnce (m ∷ numbers) → AreOnce numbers
once_rest m numbers once k n at = elim (cases_eq m n) [
  | inl same ↦ absurd (omega (arith, once (suc k) n at, place_first m n numbers same))
  | inr apart ↦ omega (arith, once (suc k) n at, place_later m n numbers apart)
]

pub distinct_once : (numbers : List ℕ) → AreOnce numbers → Distinct numbers
distinct_once [] once = tt
distinct_once (m ∷ numbers) once = (
  λ there. let (k, at) = contained_at numbers m there in absurd (omega (arith, once (suc k) m at, place_first m m numbers refl)),
  distinct_once numbers (once_rest m numbers once),
)

pub once_distinct : (numbers : List ℕ) → Distinct numbers → AreOnce numbers
once_distinct [] distinct k n at = absurd cc
once_distinct (m ∷ numbers) distinct zero n at = place_first m n numbers (same_Some m n at)
once_distinct (m ∷ numbers) distinct (suc k) n at =
    place_later m n numbers (λ same. distinct.0 (subst (λ (j : ℕ). Contains numbers j) (sym same) (contains_at numbers n k at)))
    ∙ ap suc (once_distinct numbers distinct.1 k n at)

pub put_distinct : (numbers : List ℕ) (at n : ℕ) → ¬ Contains numbers n → Distinct numbers → Distinct (put_before numbers at n)
put_distinct [] at n new distinct = tt
put_distinct (m ∷ numbers) at n new distinct = elim (cases_eq m at) [
  | inl same ↦ subst Distinct (sym (put_first m at n numbers same)) (new, distinct)
  | inr apart ↦ subst Distinct (sym (put_later m at n numbers apart)) (
    λ there. elim (put_contains numbers at n m there) [
      | inl old ↦ distinct.0 old
      | inr this ↦ new (subst (λ (j : ℕ). Contains (m ∷ numbers) j) this (contains_first m numbers))
    ],
    put_distinct numbers at n (λ there. new (contains_later m numbers n there)) distinct.1,
  )
]

pub put_ordering : (numbers : List ℕ) (at count : ℕ) → IsOrdering count numbers → IsOrdering (suc count) (put_before numbers at count)
put_ordering numbers at count ordering =
    let new : ¬ Contains numbers count = λ there. let (k, is) = contained_at numbers count there in absurd (omega (arith, ordering.below k count is)) in
    record {
      below = λ k n is. elim (put_contains numbers at count n (contains_at (put_before numbers at count) n k is)) [
        | inl old ↦ let (j, there) = contained_at numbers n old in omega (arith, ordering.below j n there)
        | inr this ↦ omega arith
      ];
      once = once_distinct (put_before numbers at count) (put_distinct numbers at count new (distinct_once numbers ordering.once));
    }

-- ---- one less

module _ (stand : List Bool) (n : ℕ) where
  abbrev one_less : List Bool
  one_less = slice_set stand n false

  pub not_marked : marked one_less n ≡ false
  not_marked = elim (cases_lt n (length stand)) [
    | inl within ↦ get_or-set_same stand n false false within
    | inr past ↦ get_or_past one_less n false (omega (arith, length-set stand n false))
  ]

  pub marked_other : (m : ℕ) → (m ≡ n → ⊥) → marked one_less m ≡ marked stand m
  marked_other m apart = get_or-set_other stand n m false false apart

  without_first : (m : ℕ) (numbers : List ℕ) → m ≡ n → without n (m ∷ numbers) ≡ without n numbers
  without_first m numbers same = cond-true (eqb m n) (without n numbers) (m ∷ without n numbers) (eq-eqb m n same)

  without_later : (m : ℕ) (numbers : List ℕ) → (m ≡ n → ⊥) → without n (m ∷ numbers) ≡ m ∷ without n numbers
  without_later m numbers apart = cond-false (eqb m n) (without n numbers) (m ∷ without n numbers) (ne_eqb m n apart)

  pub without_standing : (numbers : List ℕ) → standing_in one_less numbers ≡ without n (standing_in stand numbers)
  without_standing [] = refl
  without_standing (m ∷ numbers) =
      let later = without_standing numbers in
      let rest = standing_in stand numbers in
      elim (cases_eq m n) [
        | inl same ↦
            let now = first_gone one_less m numbers (ap (marked one_less) same ∙ not_marked) in
            elim (cases_Bool (marked stand m)) [
              | inl marked_so ↦ now ∙ later ∙ sym (ap (without n) (first_stands stand m numbers marked_so) ∙ without_first m rest same)
              | inr unmarked ↦ now ∙ later ∙ sym (ap (without n) (first_gone stand m numbers unmarked))
            ]
        | inr apart ↦ elim (cases_Bool (marked stand m)) [
          | inl marked_so ↦ first_stands one_less m numbers (marked_other m apart ∙ marked_so) ∙ ap (λ (l : List ℕ). m ∷ l) later
              ∙ sym (ap (without n) (first_stands stand m numbers marked_so) ∙ without_later m rest apart)
          | inr unmarked ↦ first_gone one_less m numbers (marked_other m apart ∙ unmarked) ∙ later ∙ sym (ap (without n) (first_gone stand m numbers unmarked))
        ]
      ]

-- ---- of each block

pub standing_length : (stand : List (List Bool)) (orders : List (List ℕ)) → length (standing stand orders) ≡ length orders
standing_length stand [] = refl
standing_length [] (order ∷ orders) = ap suc (standing_length [] orders)
standing_length (row ∷ stand) (order ∷ orders) = ap suc (standing_length stand orders)

pub standing_at : (stand : List (List Bool)) (orders : List (List ℕ)) (b : ℕ) → b < length stand → get_or (standing stand orders) b [] ≡ standing_in (get_or stand b []) (get_or orders b [])
standing_at stand [] b within = refl
standing_at [] (order ∷ orders) b within = absurd (omega arith)
standing_at (row ∷ stand) (order ∷ orders) zero within = refl
standing_at (row ∷ stand) (order ∷ orders) (suc b) within = standing_at stand orders b (omega arith)

pub standing_changed : (stand : List (List Bool)) (orders : List (List ℕ)) (b : ℕ) (row row' : List Bool) (order order' : List ℕ) (change : List ℕ → List ℕ)
    → slice_get stand b ≡ Some row → slice_get orders b ≡ Some order → standing_in row' order' ≡ change (standing_in row order)
    → standing (slice_set stand b row') (slice_set orders b order') ≡ changed_at b change (standing stand orders)
standing_changed [] orders b row row' order order' change at there is = absurd cc
standing_changed (r ∷ stand) [] b row row' order order' change at there is = absurd cc
standing_changed (r ∷ stand) (o ∷ orders) zero row row' order order' change at there is =
    let same_row : r ≡ row = same_Some r row at in
    let same_order : o ≡ order = same_Some o order there in
    ap (λ (l : List ℕ). l ∷ standing stand orders) (is ∙ ap (λ (x : List Bool). change (standing_in x order)) (sym same_row) ∙ ap (λ (x : List ℕ). change (standing_in r x)) (sym same_order))
standing_changed (r ∷ stand) (o ∷ orders) (suc b) row row' order order' change at there is =
    ap (λ (l : List (List ℕ)). standing_in r o ∷ l) (standing_changed stand orders b row row' order order' change at there is)

pub standing_marked : (stand : List (List Bool)) (orders : List (List ℕ)) (b : ℕ) (row row' : List Bool) (order : List ℕ) (change : List ℕ → List ℕ)
    → slice_get stand b ≡ Some row → slice_get orders b ≡ Some order → standing_in row' order ≡ change (standing_in row order)
    → standing (slice_set stand b row') orders ≡ changed_at b change (standing stand orders)
standing_marked [] orders b row row' order change at there is = absurd cc
standing_marked (r ∷ stand) [] b row row' order change at there is = absurd cc
standing_marked (r ∷ stand) (o ∷ orders) zero row row' order change at there is =
    let same_row : r ≡ row = same_Some r row at in
    let same_order : o ≡ order = same_Some o order there in
    ap (λ (l : List ℕ). l ∷ standing stand orders) (ap (λ (x : List ℕ). standing_in row' x) same_order ∙ is ∙ ap (λ (x : List Bool). change (standing_in x order)) (sym same_row) ∙ ap (λ (x : List ℕ). change (standing_in r x)) (sym same_order))
standing_marked (r ∷ stand) (o ∷ orders) (suc b) row row' order change at there is =
    ap (λ (l : List (List ℕ)). standing_in r o ∷ l) (standing_marked stand orders b row row' order change at there is)

-- ---- a walk along an order

pub standing_append : (stand : List Bool) (xs ys : List ℕ) → standing_in stand (xs ++ ys) ≡ standing_in stand xs ++ standing_in stand ys
standing_append stand [] ys = refl
standing_append stand (x ∷ xs) ys =
    ap (λ (l : List ℕ). cond (marked stand x) (x ∷ []) [] ++ l) (standing_append stand xs ys)
    ∙ sym (append_assoc (cond (marked stand x) (x ∷ []) []) (standing_in stand xs) (standing_in stand ys))

-- the first numbers of the order were looked at, and this one comes next
pub record Walked (stand : List Bool) (order : List ℕ) (at : Option ℕ) (numbers : List ℕ) : Type 0 where
  pub count : ℕ
  pub next : at ≡ slice_get order count
  pub done : numbers ≡ standing_in stand (take count order)

-- how many numbers are left
abbrev pub left : List ℕ → Option ℕ → ℕ
left order None = 0
left order (Some n) = length order - place_in order n

module _ (stand : List Bool) (order : List ℕ) (count n : ℕ) (numbers : List ℕ) (ordering : IsOrdering count order) (walked : Walked stand order (Some n) numbers) where
  here : slice_get order walked.count ≡ Some n
  here = sym walked.next

  within : walked.count < length order
  within = slice_get_within order walked.count n here

  place_is : place_in order n ≡ walked.count
  place_is = ordering.once walked.count n here

  pub walked_next : (next : Option ℕ) (more : List ℕ) → next ≡ slice_get order (suc (place_in order n)) → more ≡ numbers ++ standing_in stand (n ∷ []) → Walked stand order next more
  walked_next next more is grown =
      let at : get_or order walked.count n ≡ n = get_or_from_slice_get order walked.count n n here in
      let taken : take (walked.count + 1) order ≡ take walked.count order ++ n ∷ [] = take_more order walked.count n within ∙ ap (λ (m : ℕ). take walked.count order ++ m ∷ []) at in
      let one : suc (place_in order n) ≡ walked.count + 1 = let e = place_is in omega arith in
      record {
        count = walked.count + 1;
        next = is ∙ ap (slice_get order) one;
        done = grown ∙ ap (λ (l : List ℕ). l ++ standing_in stand (n ∷ [])) walked.done ∙ sym (standing_append stand (take walked.count order) (n ∷ [])) ∙ ap (standing_in stand) (sym taken);
      }

pub walked_end : (stand : List Bool) (order numbers : List ℕ) → Walked stand order None numbers → numbers ≡ standing_in stand order
walked_end stand order numbers walked = walked.done ∙ ap (standing_in stand) (take_all walked.count order (elim (slice_get_cases order walked.count).1 [
  | inl (n, inside, at, is) ↦ absurd (none-some n (walked.next ∙ at))
  | inr (past, absent) ↦ past
]))

pub none_left : (o : Option ℕ) → ((n : ℕ) → o ≡ Some n → ⊥) → o ≡ None
none_left None not_some = refl
none_left (Some n) not_some = absurd (not_some n refl)
