-- Places are set right in order: what stands before the first that waits is right, and what reads its result stands
-- behind it. So no place has its turn twice.
use Rattle.draft_bits.proofs.Common.{◌≡◌, ◌⊎◌, ℕ, suc, ◌+◌, ◌*◌, ◌-◌, ◌<◌, ◌≤◌, List, [], ◌∷◌, length, get_or, sum_by, refl, sym, ap, subst, ◌∙◌, arith, inl, inr, Contains, All-contains, cases_lt, cases_order, get_or-le-sum_by, get_or_default, get_or_past, mul-le-mul_right, Inst, IsInst, MeetsChecks, reads_at_inst, Read, slice_get, ReadsStandBefore, Draft, Place, Rows, Has, Stands, arena_of, function_of, numbers_in, numbers_of, IsSettled, IsWhole, is_arranged, reads_up, stands-comes, StandsReached}
use Rattle.places.specs.Heaps.{ComesBefore, IsNumbered, nowhere, place_at, rank, rank_at}
use Rattle.places.specs.Orders.{none, place_in}
use Rattle.places.specs.Worklist.{IsFirst, IsWorklist, WorklistView}
use Rattle.places.proofs.Members.{at_place, contains_first, contains_none}
use Rattle.places.proofs.Ranks.{first-least, heap-ranks, rank-before}
use Rattle.places.proofs.Tallies.{contains-marked, marked-contains}
use Rattle.draft_bits.proofs.Updates.{ReadsOfItsBlock}

-- what stands before the first that waits doesn't wait
pub none_earlier : (d : Draft) (waiting : Rows) (p : Place) → IsWhole d → IsFirst d.orders.items waiting p → Stands d p.block p.number
    → (n : ℕ) → Stands d p.block n → place_in (numbers_in d p.block) n < place_in (numbers_in d p.block) p.number → ¬ Has waiting p.block n
none_earlier d waiting p whole first here n there less has =
    first.none_before p.block n has (stands-comes d (record { block = p.block; number = n }) p whole there here (inr (refl, less)))

module _ (reads_before : ReadsStandBefore) (d : Draft) (settled : IsSettled d) (checks : MeetsChecks (function_of d)) where
  -- an instruction stands behind what it reads of its block
  pub reader_behind : (b n m : ℕ) (inst : Inst) → StandsReached d b n → IsInst (arena_of d) b n inst → ReadsOfItsBlock (arena_of d) b n inst m
      → Stands d b m × (place_in (numbers_in d b) m < place_in (numbers_in d b) n)
  reader_behind b n m inst stands is (no_phi, i, r, at, reads) =
      reads_up (arena_of d) (numbers_of d) (is_arranged d settled) reads_before checks b n m i inst r stands.0 no_phi stands.1 is (ap (λ (l : List Read). slice_get l i) (reads_at_inst (arena_of d) b n inst is) ∙ at) reads

  -- so it doesn't read its own result
  pub reads_other : (b n : ℕ) (inst : Inst) → StandsReached d b n → IsInst (arena_of d) b n inst → ¬ ReadsOfItsBlock (arena_of d) b n inst n
  reads_other b n inst stands is reads = let behind = (reader_behind b n n inst stands is reads).1 in absurd (omega (arith, behind))

  pub comes_behind : (b n m : ℕ) (inst : Inst) → StandsReached d b n → IsInst (arena_of d) b n inst → ReadsOfItsBlock (arena_of d) b n inst m
      → ComesBefore d.orders.items (record { block = b; number = m }) (record { block = b; number = n })
  comes_behind b n m inst stands is reads =
      let behind = reader_behind b n m inst stands is reads in
      stands-comes d (record { block = b; number = m }) (record { block = b; number = n }) settled.whole behind.0 stands.1 (inr (refl, behind.1))

-- ---- how many turns there may still be

-- more than each rank
abbrev pub most : List (List ℕ) → ℕ
most orders = suc (length orders * suc (sum_by length orders) + sum_by length orders)

abbrev pub turns_left : List (List ℕ) → List Place → ℕ
turns_left orders [] = 0
turns_left orders (p ∷ rest) = most orders - rank orders p

not_both : (m n : ℕ) → m < n → n ≤ m → ⊥
not_both m n less le = omega arith

last_rank : (front all place row sum : ℕ) → front ≤ all → place < row → row ≤ sum → front + place < suc (all + sum)
last_rank front all place row sum before within few = omega arith

some_left : (top low high : ℕ) → low ≤ high → high < top → 0 < top - low
some_left top low high le less = omega arith

fewer_left : (top low high next : ℕ) → low ≤ high → high < top → high < next → top - next < top - low
fewer_left top low high next le less later = omega arith

-- two places of one rank are one
one_place : (orders : List (List ℕ)) (p q : Place) → IsNumbered orders p → IsNumbered orders q → ¬ ComesBefore orders p q → ¬ ComesBefore orders q p → (p.block ≡ q.block) × (p.number ≡ q.number)
one_place orders p q in_p in_q not_before not_after = elim (cases_order p.block q.block) [
  | inl block ↦
      let row : List ℕ = get_or orders p.block [] in
      let at_p = at_place row p.number in_p in
      let at_q = at_place row q.number (subst (λ (b : ℕ). Contains (get_or orders b []) q.number) (sym block) in_q) in
      elim (cases_order (place_in row p.number) (place_in row q.number)) [
        | inl same ↦ (block, sym at_p.is ∙ ap (λ (i : ℕ). get_or row i none) same ∙ at_q.is)
        | inr either ↦ elim either [
          | inl less ↦ absurd (not_before (inr (block, less)))
          | inr more ↦ absurd (not_after (inr (sym block, subst (λ (b : ℕ). place_in (get_or orders b []) q.number < place_in (get_or orders b []) p.number) block more)))
        ]
      ]
  | inr either ↦ elim either [
    | inl less ↦ absurd (not_before (inl less))
    | inr more ↦ absurd (not_after (inl more))
  ]
]

module _ (orders : List (List ℕ)) (old new : WorklistView) (p : Place) (was : IsWorklist orders old) (is : IsWorklist orders new) (first : IsFirst orders old.marks p)
    (from : (b n : ℕ) → Has new.marks b n → (¬ ((p.block ≡ b) × (p.number ≡ n)) × Has old.marks b n) ⊎ ComesBefore orders p (record { block = b; number = n })) where
  -- each that waits then comes behind
  pub behind : (q : Place) → Has new.marks q.block q.number → IsNumbered orders p → IsNumbered orders q → rank orders p < rank orders q
  behind q has in_p in_q = elim (from q.block q.number has) [
    | inr before ↦ rank-before orders p q before
    | inl (other, waited) ↦ elim (cases_lt (rank orders p) (rank orders q)) [
      | inl less ↦ less
      | inr le ↦
          absurd (other (one_place orders p q in_p in_q
          (λ before. not_both (rank orders p) (rank orders q) (rank-before orders p q before) le)
          (first.none_before q.block q.number waited)))
    ]
  ]

  waited : Contains old.heap p
  waited = marked-contains old.marks old.heap p.block p.number was.once first.there

  numbered : IsNumbered orders p
  numbered = All-contains (IsNumbered orders) old.heap p was.heap.numbered waited

  -- no rank is above the last
  below_most : rank orders p < most orders
  below_most =
      let (known, row) : (p.block < length orders) × (length (get_or orders p.block []) ≤ sum_by length orders) = elim (cases_lt p.block (length orders)) [
        | inl within ↦ (within, get_or-le-sum_by length orders p.block [] within)
        | inr past ↦ absurd (contains_none p.number (subst (λ (l : List ℕ). Contains l p.number) (get_or_past orders p.block [] past) numbered))
      ] in
      let le : p.block ≤ length orders = omega (arith, known) in
      let rows : p.block * suc (sum_by length orders) ≤ length orders * suc (sum_by length orders) = mul-le-mul_right (suc (sum_by length orders)) le in
      last_rank (p.block * suc (sum_by length orders)) (length orders * suc (sum_by length orders)) (place_in (get_or orders p.block []) p.number) (length (get_or orders p.block [])) (sum_by length orders) rows
      (at_place (get_or orders p.block []) p.number numbered).within row

  -- the first of the heap is no later than the first that waits
  root_low : (root : Place) (rest : List Place) → old.heap ≡ root ∷ rest → rank orders root ≤ rank orders p
  root_low root rest is_heap =
      let (k, within, at) = waited in
      let least : rank_at orders old.heap 0 ≤ rank_at orders old.heap k = first-least (rank_at orders old.heap) (length old.heap) k (heap-ranks orders old.heap was.heap) within in
      let found : place_at old.heap k ≡ p = sym (get_or_default old.heap k p nowhere within) ∙ at in
      let root_is : place_at old.heap 0 ≡ root = ap (λ (l : List Place). place_at l 0) is_heap in
      subst (λ (q : Place). rank orders q ≤ rank orders p) root_is (subst (λ (q : Place). rank_at orders old.heap 0 ≤ rank orders q) found least)

  fewer_in : (before after : List Place) → old.heap ≡ before → new.heap ≡ after → turns_left orders after < turns_left orders before
  fewer_in [] after is_old is_new = absurd (contains_none p (subst (λ (l : List Place). Contains l p) is_old waited))
  fewer_in (root ∷ rest) [] is_old is_new = some_left (most orders) (rank orders root) (rank orders p) (root_low root rest is_old) below_most
  fewer_in (root ∷ rest) (next ∷ others) is_old is_new =
      let there : Contains new.heap next = subst (λ (l : List Place). Contains l next) (sym is_new) (contains_first next others) in
      let later : rank orders p < rank orders next = behind next (contains-marked new.marks new.heap next is.once there) numbered (All-contains (IsNumbered orders) new.heap next is.heap.numbered there) in
      fewer_left (most orders) (rank orders root) (rank orders p) (rank orders next) (root_low root rest is_old) below_most later

  pub fewer : turns_left orders new.heap < turns_left orders old.heap
  fewer = fewer_in old.heap new.heap refl refl
