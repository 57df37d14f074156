-- Ranks of places, and ranks in a heap while an entry is sifted up or down.
use Rattle.places.proofs.Common.{◌≡◌, ℕ, zero, suc, ◌+◌, ◌-◌, ◌*◌, ◌/◌, ◌<◌, ◌≤◌, ◌⊎◌, inl, inr, List, [], ◌∷◌, ◌++◌, length, get_or, sum_by, sym, ap, subst, ◌∙◌, arith, All, Contains, mul-le-mul_right, cases_eq, cases_lt, cases_order, get_or_append_left, get_or_default, get_or_past, length_push, get_or-le-sum_by, swap, Swapped, swapped_from_swap, Place, place_in, IsNumbered, ComesBefore, IsHeap, IsBelow, nowhere, place_at, rank, rank_at, IsRising, IsSinking, IsLeastBelow}
use Rattle.places.proofs.Members.{place-here, place-later, contains_none}

place_in-most : (ns : List ℕ) (n : ℕ) → place_in ns n ≤ length ns
place_in-most [] n = omega arith
place_in-most (m ∷ ns) n =
    elim (cases_eq m n) [
      | inl e ↦ let here = place-here m n ns e in omega arith
      | inr ne ↦ let later = place-later m n ns ne in let rest = place_in-most ns n in omega arith
    ]

row-most : (orders : List (List ℕ)) (b : ℕ) → length (get_or orders b []) ≤ sum_by length orders
row-most orders b =
    elim (cases_lt b (length orders)) [
      | inl within ↦ get_or-le-sum_by length orders b [] within
      | inr past ↦ let none : length (get_or orders b []) ≡ 0 = ap length (get_or_past orders b [] past) in omega arith
    ]

inside : (orders : List (List ℕ)) (b n : ℕ) → place_in (get_or orders b []) n < suc (sum_by length orders)
inside orders b n = let most = place_in-most (get_or orders b []) n in let row = row-most orders b in omega arith

-- in rows of this width, what is in an earlier row comes before
earlier_row : (width b c i j : ℕ) → i < width → b < c → b * width + i < c * width + j
earlier_row width b c i j lt earlier = let rows : suc b * width ≤ c * width = mul-le-mul_right width earlier in let more : suc b * width ≡ b * width + width = omega arith in omega arith

pub rank-before : (orders : List (List ℕ)) (p q : Place) → ComesBefore orders p q → rank orders p < rank orders q
rank-before orders p q h =
    elim h [
      | inl earlier ↦ earlier_row (suc (sum_by length orders)) p.block q.block _ _ (inside orders p.block p.number) earlier
      | inr here ↦
          let block = here.0 in
          let below : place_in (get_or orders q.block []) p.number < place_in (get_or orders q.block []) q.number = subst (λ b. place_in (get_or orders b []) p.number < place_in (get_or orders b []) q.number) block here.1 in
          subst (λ b. b * suc (sum_by length orders) + place_in (get_or orders b []) p.number < rank orders q) (sym block) (omega arith)
    ]

pub before-rank : (orders : List (List ℕ)) (p q : Place) → rank orders p < rank orders q → ComesBefore orders p q
before-rank orders p q lower =
    elim (cases_order p.block q.block) [
      | inl block ↦
          let same : p.block * suc (sum_by length orders) ≡ q.block * suc (sum_by length orders) = ap (λ b. b * suc (sum_by length orders)) block in
          let below : place_in (get_or orders p.block []) p.number < place_in (get_or orders q.block []) q.number = omega arith in
          inr (block, subst (λ b. place_in (get_or orders p.block []) p.number < place_in (get_or orders b []) q.number) (sym block) below)
      | inr either ↦ elim either [
        | inl earlier ↦ inl earlier
        | inr later ↦ absurd (let up = earlier_row (suc (sum_by length orders)) q.block p.block (place_in (get_or orders q.block []) q.number) (place_in (get_or orders p.block []) p.number) (inside orders q.block q.number) later in omega arith)
      ]
    ]

-- each rank is at least its parent's
abbrev pub AreHeaped : (ℕ → ℕ) → ℕ → Type 0
AreHeaped ranks count = (k over : ℕ) → IsBelow k over → k < count → ranks over ≤ ranks k

pub heap-ranks : (orders : List (List ℕ)) (heap : List Place) → IsHeap orders heap → AreHeaped (rank_at orders heap) (length heap)
heap-ranks orders heap h k over below within =
    elim (cases_lt (rank_at orders heap k) (rank_at orders heap over)) [
      | inl lower ↦ absurd (h.ordered k over below within (before-rank orders _ _ lower))
      | inr le ↦ le
    ]

pub ranks-heap : (orders : List (List ℕ)) (heap : List Place) → All (IsNumbered orders) heap → AreHeaped (rank_at orders heap) (length heap) → IsHeap orders heap
ranks-heap orders heap numbered h = record {
  numbered = numbered;
  ordered = λ k over below within before. (let le = h k over below within in let lower = rank-before orders (place_at heap k) (place_at heap over) before in omega arith);
}

-- the first rank is the lowest
least-within : (ranks : ℕ → ℕ) (count most k : ℕ) → AreHeaped ranks count → k ≤ most → k < count → ranks 0 ≤ ranks k
least-within ranks count zero k h le within = let e : 0 ≡ k = omega arith in subst (λ i. ranks 0 ≤ ranks i) e (omega arith)
least-within ranks count (suc most) k h le within =
    elim (cases_eq 0 k) [
      | inl e ↦ subst (λ i. ranks 0 ≤ ranks i) e (omega arith)
      | inr ne ↦
          let over = (k - 1) / 2 in
          let up = h k over (omega arith, omega arith) within in
          let rest = least-within ranks count most over h (omega arith) (omega arith) in
          omega arith
    ]

pub first-least : (ranks : ℕ → ℕ) (count k : ℕ) → AreHeaped ranks count → k < count → ranks 0 ≤ ranks k
first-least ranks count k h within = least-within ranks count k k h (omega arith) within

-- where the rank that is sifted up is at least its parent's, the ranks are those of a heap
pub risen : (ranks : ℕ → ℕ) (count at : ℕ) → IsRising ranks count at → ((over : ℕ) → IsBelow at over → ranks over ≤ ranks at) → AreHeaped ranks count
risen ranks count at h last k over below within =
    elim (cases_eq k at) [
      | inl e ↦ subst (λ i. ranks over ≤ ranks i) (sym e) (last over (subst (λ i. IsBelow i over) e below))
      | inr ne ↦ h.others k over below within ne
    ]

-- an index has one parent
above-one : (k over other : ℕ) → IsBelow k over → IsBelow k other → over ≡ other
above-one k over other one two = let a = one.0 in let b = one.1 in let c = two.0 in let d = two.1 in omega arith

pub rise-step : (old new : ℕ → ℕ) (count at over : ℕ) → IsRising old count at → at < count → IsBelow at over → old at < old over → Swapped old new at over → IsRising new count over
rise-step old new count at over h within below lower swap = record { others = others; around = around }
  where
    under : over < at
    under = let a = below.0 in omega arith

    at_is : new at ≡ old over
    at_is = swap.0

    over_is : new over ≡ old at
    over_is = swap.1

    kept : (k : ℕ) → (k ≡ at → ⊥) → (k ≡ over → ⊥) → new k ≡ old k
    kept = swap.2

    others : (k other : ℕ) → IsBelow k other → k < count → (k ≡ over → ⊥) → new other ≤ new k
    others k other there inside not_over =
        elim (cases_eq k at) [
          | inl e ↦
              let same = above-one at other over (subst (λ i. IsBelow i other) e there) below in
              let new_k : new k ≡ new at = ap new e in
              let new_other : new other ≡ new over = ap new same in
              omega (arith, at_is, over_is)
          | inr not_at ↦
              let new_k = kept k not_at not_over in
              elim (cases_eq other over) [
                | inl e ↦
                    let le = h.others k other there inside not_at in
                    let old_other : old other ≡ old over = ap old e in
                    let new_other : new other ≡ new over = ap new e in
                    omega (arith, over_is)
                | inr other_over ↦ elim (cases_eq other at) [
                  | inl e ↦
                      let le = h.around k over below (subst (IsBelow k) e there) inside in
                      let new_other : new other ≡ new at = ap new e in
                      omega (arith, at_is)
                  | inr other_at ↦
                      let le = h.others k other there inside not_at in
                      let new_other = kept other other_at other_over in
                      omega arith
                ]
              ]
        ]

    around : (k other : ℕ) → IsBelow over other → IsBelow k over → k < count → new other ≤ new k
    around k other there here inside =
        let above = there.0 in
        let beyond = here.0 in
        let not_at : other ≡ at → ⊥ = λ e. omega (arith, under) in
        let not_over : other ≡ over → ⊥ = λ e. omega arith in
        let new_other = kept other not_at not_over in
        let le = h.others over other there (omega (arith, under)) (λ e. omega (arith, under)) in
        elim (cases_eq k at) [
          | inl e ↦ let new_k : new k ≡ new at = ap new e in omega (arith, at_is)
          | inr other_at ↦
              let further = h.others k over here inside other_at in
              let new_k = kept k other_at (λ e. omega arith) in
              omega arith
        ]

-- where no child of the rank that is sifted down is lower, the ranks are those of a heap
pub sunk : (ranks : ℕ → ℕ) (count at : ℕ) → IsSinking ranks count at → ((k : ℕ) → IsBelow k at → k < count → ranks at ≤ ranks k) → AreHeaped ranks count
sunk ranks count at h last k over below within =
    elim (cases_eq over at) [
      | inl e ↦ subst (λ i. ranks i ≤ ranks k) (sym e) (last k (subst (IsBelow k) e below) within)
      | inr ne ↦ h.others k over below within ne
    ]

pub sink-step : (old new : ℕ → ℕ) (count at below : ℕ) → IsSinking old count at → IsLeastBelow old count at below → old below < old at → Swapped old new at below → IsSinking new count below
sink-step old new count at below h least lower swap = record { others = others; around = around }
  where
    under : at < below
    under = let a = least.below.0 in omega arith

    at_is : new at ≡ old below
    at_is = swap.0

    below_is : new below ≡ old at
    below_is = swap.1

    kept : (k : ℕ) → (k ≡ at → ⊥) → (k ≡ below → ⊥) → new k ≡ old k
    kept = swap.2

    others : (k over : ℕ) → IsBelow k over → k < count → (over ≡ below → ⊥) → new over ≤ new k
    others k over there inside not_below =
        let beyond = there.0 in
        elim (cases_eq over at) [
          | inl e ↦
              let new_over : new over ≡ new at = ap new e in
              let here = subst (IsBelow k) e there in
              elim (cases_eq k below) [
                | inl is ↦ let new_k : new k ≡ new below = ap new is in omega (arith, at_is, below_is)
                | inr other ↦
                    let le = least.least k here inside in
                    let new_k = kept k (λ is. omega arith) other in
                    omega (arith, at_is)
              ]
          | inr not_at ↦
              let new_over = kept over not_at not_below in
              elim (cases_eq k at) [
                | inl e ↦
                    let le = h.around below over (subst (λ i. IsBelow i over) e there) least.below least.within in
                    let new_k : new k ≡ new at = ap new e in
                    omega (arith, at_is)
                | inr k_at ↦
                    let le = h.others k over there inside not_at in
                    let k_below : k ≡ below → ⊥ = λ e. not_at (above-one below over at (subst (λ i. IsBelow i over) e there) least.below) in
                    let new_k = kept k k_at k_below in
                    omega arith
              ]
        ]

    around : (k over : ℕ) → IsBelow below over → IsBelow k below → k < count → new over ≤ new k
    around k over there here inside =
        let same = above-one below over at there least.below in
        let new_over : new over ≡ new at = ap new same in
        let beyond = here.0 in
        let le = h.others k below here inside (λ e. omega (arith, under)) in
        let new_k = kept k (λ e. omega (arith, under)) (λ e. omega arith) in
        omega (arith, at_is)

pub not-before-rank : (orders : List (List ℕ)) (p q : Place) → (ComesBefore orders p q → ⊥) → rank orders q ≤ rank orders p
not-before-rank orders p q not_before =
    elim (cases_lt (rank orders p) (rank orders q)) [
      | inl lower ↦ absurd (not_before (before-rank orders p q lower))
      | inr le ↦ le
    ]

pub ranks-swapped : (orders : List (List ℕ)) (heap new : List Place) (a b : ℕ) → a < length heap → b < length heap → new ≡ swap heap a b → Swapped (rank_at orders heap) (rank_at orders new) a b
ranks-swapped orders heap new a b in_a in_b is =
    let s = swapped_from_swap heap new a b nowhere in_a in_b is in
    (ap (rank orders) s.0, ap (rank orders) s.1, λ m not_a not_b. ap (rank orders) (s.2 m not_a not_b))

-- a place that is pushed onto a heap is to be sifted up
pub rising-pushed : (orders : List (List ℕ)) (heap : List Place) (p : Place) → IsHeap orders heap → IsRising (rank_at orders (heap ++ p ∷ [])) (length (heap ++ p ∷ [])) (length heap)
rising-pushed orders heap p h =
    let more = length_push heap p in
    let kept : (k : ℕ) → k < length heap → rank_at orders (heap ++ p ∷ []) k ≡ rank_at orders heap k = λ k lt. ap (rank orders) (get_or_append_left heap (p ∷ []) nowhere k lt) in
    record {
      others = λ k over below within other.
          (let beyond = below.0 in
          let inside : k < length heap = omega arith in
          let le = heap-ranks orders heap h k over below inside in
          let new_k = kept k inside in
          let new_over = kept over (omega arith) in
          omega arith);
      around = λ k over above below within. absurd (let beyond = below.0 in omega arith);
    }

-- what takes the place of the root that was popped is to be sifted down
pub sinking-removed : (orders : List (List ℕ)) (heap rest : List Place) → IsHeap orders heap → length rest + 1 ≡ length heap → ((k : ℕ) → (k ≡ 0 → ⊥) → k + 1 < length heap → place_at rest k ≡ place_at heap k) → IsSinking (rank_at orders rest) (length rest) 0
sinking-removed orders heap rest h shorter kept = record {
  others = λ k over below within other.
      (let beyond = below.0 in
      let le = heap-ranks orders heap h k over below (omega arith) in
      let rest_k : rank_at orders rest k ≡ rank_at orders heap k = ap (rank orders) (kept k (λ e. omega arith) (omega arith)) in
      let rest_over : rank_at orders rest over ≡ rank_at orders heap over = ap (rank orders) (kept over other (omega arith)) in
      omega arith);
  around = λ k over above below within. absurd (let beyond = above.0 in omega arith);
}

-- none comes before the root of a heap
pub first-comes : (orders : List (List ℕ)) (heap : List Place) (p : Place) → IsHeap orders heap → 0 < length heap → p ≡ get_or heap 0 p → All (λ other. ¬ ComesBefore orders other p) heap
first-comes orders heap p h some is k d within before =
    let first : p ≡ place_at heap 0 = is ∙ get_or_default heap 0 p nowhere some in
    let lower : rank orders (get_or heap k d) < rank orders p = rank-before orders (get_or heap k d) p before in
    let least = first-least (rank_at orders heap) (length heap) k (heap-ranks orders heap h) within in
    let rank_k : rank orders (get_or heap k d) ≡ rank_at orders heap k = ap (rank orders) (get_or_default heap k d nowhere within) in
    let rank_p : rank orders p ≡ rank_at orders heap 0 = ap (rank orders) first in
    omega arith

below-cases : (k over : ℕ) → IsBelow k over → (k ≡ 2 * over + 1) ⊎ (k ≡ 2 * over + 1 + 1)
below-cases k over below =
    let low = below.0 in
    let high = below.1 in
    elim (cases_eq k (2 * over + 1)) [
      | inl e ↦ inl e
      | inr ne ↦ inr (omega arith)
    ]

pub least-right : (ranks : ℕ → ℕ) (count at : ℕ) → 2 * at + 1 + 1 < count → ranks (2 * at + 1 + 1) ≤ ranks (2 * at + 1) → IsLeastBelow ranks count at (2 * at + 1 + 1)
least-right ranks count at within le = record {
  below = (omega arith, omega arith);
  within = within;
  least = λ j below inside. elim (below-cases j at below) [
    | inl e ↦ subst (λ i. ranks (2 * at + 1 + 1) ≤ ranks i) (sym e) le
    | inr e ↦ subst (λ i. ranks (2 * at + 1 + 1) ≤ ranks i) (sym e) (omega arith)
  ];
}

pub least-left : (ranks : ℕ → ℕ) (count at : ℕ) → 2 * at + 1 < count → (2 * at + 1 + 1 < count → ranks (2 * at + 1) ≤ ranks (2 * at + 1 + 1)) → IsLeastBelow ranks count at (2 * at + 1)
least-left ranks count at within le = record {
  below = (omega arith, omega arith);
  within = within;
  least = λ j below inside. elim (below-cases j at below) [
    | inl e ↦ subst (λ i. ranks (2 * at + 1) ≤ ranks i) (sym e) (omega arith)
    | inr e ↦ subst (λ i. ranks (2 * at + 1) ≤ ranks i) (sym e) (le (subst (λ i. i < count) e inside))
  ];
}

-- where the entry doesn't come before its parent, sifting up ends
pub risen-here : (orders : List (List ℕ)) (heap : List Place) (at : ℕ) → All (IsNumbered orders) heap → IsRising (rank_at orders heap) (length heap) at
    → (0 < at → rank_at orders heap ((at - 1) / 2) ≤ rank_at orders heap at) → IsHeap orders heap
risen-here orders heap at numbered rising last =
    ranks-heap orders heap numbered (risen (rank_at orders heap) (length heap) at rising (λ over below.
    (let low = below.0 in let high = below.1 in let e : (at - 1) / 2 ≡ over = omega arith in subst (λ i. rank_at orders heap i ≤ rank_at orders heap at) e (last (omega arith)))))

-- where no child comes before the entry, sifting down ends
pub sunk-here : (orders : List (List ℕ)) (heap : List Place) (at below : ℕ) → All (IsNumbered orders) heap → IsSinking (rank_at orders heap) (length heap) at
    → IsLeastBelow (rank_at orders heap) (length heap) at below → rank_at orders heap at ≤ rank_at orders heap below → IsHeap orders heap
sunk-here orders heap at below numbered sinking least le =
    ranks-heap orders heap numbered (sunk (rank_at orders heap) (length heap) at sinking (λ k under within. (let lowest = least.least k under within in omega arith)))

pub sunk-down : (orders : List (List ℕ)) (heap : List Place) (at : ℕ) → All (IsNumbered orders) heap → IsSinking (rank_at orders heap) (length heap) at → length heap ≤ 2 * at + 1 → IsHeap orders heap
sunk-down orders heap at numbered sinking none =
    ranks-heap orders heap numbered (sunk (rank_at orders heap) (length heap) at sinking (λ k under within. absurd (let low = under.0 in omega arith)))

numbered-inside : (orders : List (List ℕ)) (b n : ℕ) → Contains (get_or orders b []) n → b < length orders
numbered-inside [] b n c = absurd (contains_none n c)
numbered-inside (row ∷ orders) zero n c = omega arith
numbered-inside (row ∷ orders) (suc b) n c = let rest = numbered-inside orders b n c in omega arith

pub numbered-block : (orders : List (List ℕ)) (p : Place) → IsNumbered orders p → p.block < length orders
numbered-block orders p c = numbered-inside orders p.block p.number c
