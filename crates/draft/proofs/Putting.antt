-- Arenas with one more instruction in a block, and tables with one more entry for it.
use Rattle.draft.proofs.Common.{◌≡◌, ◌⊎◌, inl, inr, ℕ, zero, suc, ◌+◌, ◌<◌, ◌≤◌, List, [], ◌∷◌, ◌++◌, length, get_or, slice_set, Some, refl, sym, ap, subst, ◌∙◌, arith, get_or-set_other, get_or-set_same, Contains, slice_get, cases_eq, cases_lt, get_or_append_left, get_or_past, get_or_push, length_push, sum_by_push, slice_get_cases, successors_of, AreFactsOf, FunctionFacts, HasInst, IsBlock, targets_of, IsKnown, Block, Function, Inst, Operand, Register, operands_of, HasNumber, count_of, Uses, inst_put, put_in, AreCounted, operands_at, times, times_in, times_in_function, none, AreListed, AreReadersOf, HasList, IsPlaceIn, arena_place, listed_for, Place, Readers, HasAll, changed_sum, has_known, known_has, known_kept, AreFew, AreKnown, operands_at_inst, operands_at_terminator, reads_written, same_place, written_reads, counts_are_times, times_are_counts}
use Rattle.ir_core.specs.declared.operand.Operand.TheVariants as operands
use Rattle.ir_core.specs.declared.operand.Register.TheVariants as registers
use Rattle.draft.proofs.Exchanging.{block_cases, block_is, block_now, block_other, map_changed, read_in_other}

slice_get_left : {A : Type 0} (xs ys : List A) (n : ℕ) → n < length xs → slice_get (xs ++ ys) n ≡ slice_get xs n
slice_get_left [] ys n within = absurd (omega arith)
slice_get_left (x ∷ xs) ys zero within = refl
slice_get_left (x ∷ xs) ys (suc n) within = slice_get_left xs ys n (omega arith)

slice_get_last : {A : Type 0} (xs : List A) (y : A) → slice_get (xs ++ y ∷ []) (length xs) ≡ Some y
slice_get_last [] y = refl
slice_get_last (x ∷ xs) y = slice_get_last xs y

module _ (f : Function) (few : AreFew f) (b : ℕ) (block : Block) (at : IsBlock f b block) (inst : Inst) (room : length block.insts + 1 ≤ none) where
  abbrev more : Block → Block
  more = inst_put inst

  abbrev new : Function
  new = put_in f b inst

  abbrev number : ℕ
  number = length block.insts

  abbrev place : Place
  place = record { block = b; number = number }

  count_now : length (more block).insts ≡ number + 1
  count_now = length_push block.insts inst

  now : IsBlock new b (more block)
  now = block_now f b more block at

  pub has_put : HasAll f new
  has_put = record {
    parameters = refl;
    insts = λ d j (x, is, within). elim (cases_eq d b) [
      | inl same ↦
          let x_is : x ≡ block = block_is f b more block at d x same is in
          let size = ap (λ (z : Block). length z.insts) x_is in
          let count = count_now in
          (more block, subst (λ (c : ℕ). IsBlock new c (more block)) (sym same) now, omega arith)
      | inr apart ↦ (x, block_other f b more block at d x apart is, within)
    ];
  }

  -- an instruction of the new function was there before, or is the inserted one
  pub has_back : (d j : ℕ) → HasInst new d j → HasInst f d j ⊎ (registers.Result d j ≡ registers.Result b number)
  has_back d j (x, is, within) = elim (block_cases f b more block at d x is) [
    | inl (same, x_is) ↦
        let size = ap (λ (z : Block). length z.insts) x_is in
        let count = count_now in
        elim (cases_lt j number) [
          | inl less ↦ inl (block, ap (slice_get f.blocks) same ∙ at, less)
          | inr past ↦ let last : j ≡ number = omega arith in inr cc
        ]
    | inr (apart, old) ↦ inl (x, old, within)
  ]

  pub known_back : (r : Register) → IsKnown new (operands.Register r) → IsKnown f (operands.Register r) ⊎ (r ≡ registers.Result b number)
  known_back (registers.Parameter p) known = inl known
  known_back (registers.Result d j) known = elim (has_back d j (known_has new d j known)) [
    | inl old ↦ inl (has_known f d j old)
    | inr this ↦ inr this
  ]

  pub places_put : (q : Place) → IsPlaceIn new q → IsPlaceIn f q ⊎ (q ≡ place)
  places_put q (x, is, inside) = elim (block_cases f b more block at q.block x is) [
    | inl (same, x_is) ↦
        let old : IsBlock f q.block block = ap (slice_get f.blocks) same ∙ at in
        let size = ap (λ (z : Block). length z.insts) x_is in
        let count = count_now in
        elim inside [
          | inl within ↦ elim (cases_lt q.number number) [
            | inl less ↦ inl (block, old, inl less)
            | inr past ↦ let last : q.number ≡ number = omega arith in inr (same_place q place same last)
          ]
          | inr end ↦ inl (block, old, inr end)
        ]
    | inr (apart, old) ↦ inl (x, old, inside)
  ]

  pub places_kept : (q : Place) → IsPlaceIn f q → IsPlaceIn new q
  places_kept q (x, is, inside) = elim (cases_eq q.block b) [
    | inl same ↦
        let x_is : x ≡ block = block_is f b more block at q.block x same is in
        let size = ap (λ (z : Block). length z.insts) x_is in
        let count = count_now in
        (more block, subst (λ (c : ℕ). IsBlock new c (more block)) (sym same) now, elim inside [ inl within ↦ inl (omega arith) | inr end ↦ inr end ])
    | inr apart ↦ (x, block_other f b more block at q.block x apart is, inside)
  ]

  pub place_put : IsPlaceIn new place
  place_put = let count = count_now in (more block, now, inl (omega arith))

  pub few_put : AreFew new
  few_put c x is = elim (block_cases f b more block at c x is) [
    | inl (same, x_is) ↦ let size = ap (λ (z : Block). length z.insts) x_is in let count = count_now in omega arith
    | inr (apart, old) ↦ few c x old
  ]

  pub read_put : operands_at new place ≡ operands_of inst.op
  read_put = operands_at_inst new place (more block) inst now (slice_get_last block.insts inst) (omega arith)

  pub read_elsewhere : (q : Place) → IsPlaceIn f q → operands_at new q ≡ operands_at f q
  read_elsewhere q (x, is, inside) = elim (cases_eq q.block b) [
    | inr apart ↦ read_in_other f b more block at few q apart (x, is, inside)
    | inl same ↦
        let x_is : x ≡ block = block_is f b more block at q.block x same is in
        let there : IsBlock new q.block (more x) = subst (λ (c : ℕ). IsBlock new c (more x)) (sym same) (subst (λ (z : Block). IsBlock new b (more z)) (sym x_is) now) in
        let less = few q.block x is in
        elim inside [
          | inl within ↦ elim (slice_get_cases x.insts q.number).1 [
            | inl (i, in_list, here, i_same) ↦
                operands_at_inst new q (more x) i there (slice_get_left x.insts (inst ∷ []) q.number in_list ∙ here) (omega arith)
                ∙ sym (operands_at_inst f q x i is here (omega arith))
            | inr (past, absent) ↦ absurd (omega arith)
          ]
          | inr end ↦ operands_at_terminator new q (more x) there end ∙ sym (operands_at_terminator f q x is end)
        ]
  ]

  pub times_put : (r : Register) → times_in_function r new ≡ times_in_function r f + times r (operands_of inst.op)
  times_put r =
      let blocks = changed_sum (times_in r) b more f.blocks block at in
      let insts = sum_by_push (λ (i : Inst). times r (operands_of i.op)) block.insts inst in
      omega arith

  pub flow_put : successors_of new ≡ successors_of f
  flow_put = map_changed (λ (x : Block). targets_of x.end) b more f.blocks (λ x. refl)

  pub known_put : AreKnown f → ((a : Operand) → Contains (operands_of inst.op) a → IsKnown f a) → AreKnown new
  known_put known reads q a inside there = elim (places_put q inside) [
    | inl old ↦ known_kept f new has_put a (known q a old (subst (λ (l : List Operand). Contains l a) (read_elsewhere q old) there))
    | inr this ↦
        let here : Contains (operands_at new place) a = subst (λ (x : Place). Contains (operands_at new x) a) this there in
        known_kept f new has_put a (reads a (subst (λ (l : List Operand). Contains l a) read_put here))
  ]

  pub facts_put : (old new_facts : FunctionFacts) (mid : Uses) → AreFactsOf f old → new_facts.flow ≡ old.flow
      → ((r : Register) → HasNumber old.uses r ⊎ (r ≡ registers.Result b number) → HasNumber mid r) → ((r : Register) → count_of mid r ≡ count_of old.uses r)
      → AreCounted (operands_at new place) mid new_facts.uses → AreFactsOf new new_facts
  facts_put old new_facts mid facts flow there same counted = record {
    flow = flow ∙ facts.flow ∙ sym flow_put;
    uses = times_are_counts new new_facts.uses
        (λ r known. (counted.there r).0 (there r (elim (known_back r known) [ inl older ↦ inl (facts.uses.there r older) | inr this ↦ inr this ])))
        (λ r.
        let was = counts_are_times f old.uses facts.uses r in
        let kept = same r in
        let more = counted.more r in
        let reads = ap (times r) read_put in
        let total = times_put r in
        omega arith);
  }

  pub readers_put : (old mid new_readers : Readers) → AreReadersOf f old
      → ((r : Register) → HasList old r ⊎ (r ≡ registers.Result b number) → HasList mid r) → ((r : Register) → listed_for mid r ≡ listed_for old r)
      → AreListed place (operands_at new place) mid new_readers → AreReadersOf new new_readers
  readers_put old mid new_readers are there same listed = record {
    there = λ r known. listed.there r (there r (elim (known_back r known) [ inl older ↦ inl (are.there r older) | inr this ↦ inr this ]));
    complete = λ r q inside reads.
        let reads_now = reads_written new q.block (arena_place new q) r reads in
        elim (places_put q inside) [
          | inl older ↦
              let read_before : Contains (operands_at f q) (operands.Register r) = subst (λ (l : List Operand). Contains l (operands.Register r)) (read_elsewhere q older) reads_now in
              (listed.listed r q).1 (inl (subst (λ (l : List Place). Contains l q) (sym (same r)) (are.complete r q older (written_reads f q.block (arena_place f q) r read_before))))
          | inr this ↦ (listed.listed r q).1 (inr (subst (λ (x : Place). Contains (operands_at new x) (operands.Register r)) this reads_now, this))
        ];
    places = λ r q h. elim ((listed.listed r q).0 h) [
      | inl older ↦ places_kept q (are.places r q (subst (λ (l : List Place). Contains l q) (same r) older))
      | inr (reads, this) ↦ subst (IsPlaceIn new) (sym this) place_put
    ];
  }

-- ---- a row with one more entry

module _ {A : Type 0} (d : A) (results : List (List A)) (b : ℕ) (within : b < length results) where
  abbrev longer : List (List A)
  longer = slice_set results b (get_or results b [] ++ d ∷ [])

  -- each entry is as it was
  pub entry_kept : (c n : ℕ) → get_or (get_or longer c []) n d ≡ get_or (get_or results c []) n d
  entry_kept c n = elim (cases_eq c b) [
    | inl same ↦
        ap (λ (k : ℕ). get_or (get_or longer k []) n d) same
        ∙ ap (λ (l : List A). get_or l n d) (get_or-set_same results b (get_or results b [] ++ d ∷ []) [] within)
        ∙ pushed_entry (get_or results b []) n
        ∙ ap (λ (k : ℕ). get_or (get_or results k []) n d) (sym same)
    | inr apart ↦ ap (λ (l : List A). get_or l n d) (get_or-set_other results b c (get_or results b [] ++ d ∷ []) [] apart)
  ]
    where
      pushed_entry : (row : List A) (n : ℕ) → get_or (row ++ d ∷ []) n d ≡ get_or row n d
      pushed_entry row n = elim (cases_lt n (length row)) [
        | inl less ↦ get_or_append_left row (d ∷ []) d n less
        | inr past ↦ elim (cases_eq n (length row)) [
          | inl last ↦ get_or_push row d d n (sym last) ∙ sym (get_or_past row n d past)
          | inr beyond ↦ get_or_past (row ++ d ∷ []) n d (omega (arith, length_push row d)) ∙ sym (get_or_past row n d past)
        ]
      ]

  -- and there is one more
  pub entry_there : (c n : ℕ) → n < length (get_or results c []) ⊎ ((c ≡ b) × (n ≤ length (get_or results b []))) → n < length (get_or longer c [])
  entry_there c n h = elim (cases_eq c b) [
    | inl same ↦
        let row : get_or longer c [] ≡ get_or results b [] ++ d ∷ [] = ap (λ (k : ℕ). get_or longer k []) same ∙ get_or-set_same results b (get_or results b [] ++ d ∷ []) [] within in
        let size = ap length row ∙ length_push (get_or results b []) d in
        elim h [
          | inl old ↦ let was = ap (λ (k : ℕ). length (get_or results k [])) same in omega arith
          | inr (is, low) ↦ omega arith
        ]
    | inr apart ↦
        let row : get_or longer c [] ≡ get_or results c [] = get_or-set_other results b c (get_or results b [] ++ d ∷ []) [] apart in
        let size = ap length row in
        elim h [
          | inl old ↦ omega arith
          | inr (is, low) ↦ absurd (apart is)
        ]
  ]

-- a count for one more register, which has no uses
module _ (old mid : Uses) (b n : ℕ) (within : b < length old.results.items) (low : n ≤ length (get_or old.results.items b [])) (parameters : mid.parameters ≡ old.parameters)
    (results : mid.results.items ≡ slice_set old.results.items b (get_or old.results.items b [] ++ 0 ∷ [])) where
  pub count_kept : (r : Register) → count_of mid r ≡ count_of old r
  count_kept (registers.Parameter p) = ap (λ (l : List ℕ). get_or l p 0) parameters
  count_kept (registers.Result c m) = ap (λ (l : List (List ℕ)). get_or (get_or l c []) m 0) results ∙ entry_kept 0 old.results.items b within c m

  pub number_there : (r : Register) → HasNumber old r ⊎ (r ≡ registers.Result b n) → HasNumber mid r
  number_there (registers.Parameter p) (inl h) = let same = ap length parameters in omega arith
  number_there (registers.Parameter p) (inr e) = cc
  number_there (registers.Result c m) (inl h) = subst (λ (l : List (List ℕ)). m < length (get_or l c [])) (sym results) (entry_there 0 old.results.items b within c m (inl h))
  number_there (registers.Result c m) (inr e) =
      let block : c ≡ b = cc in
      let number : m ≡ n = cc in
      subst (λ (l : List (List ℕ)). m < length (get_or l c [])) (sym results) (entry_there 0 old.results.items b within c m (inr (block, omega arith)))

-- an empty use list for one more register
module _ (old mid : Readers) (b n : ℕ) (within : b < length old.results.items) (low : n ≤ length (get_or old.results.items b [])) (parameters : mid.parameters ≡ old.parameters)
    (results : mid.results.items ≡ slice_set old.results.items b (get_or old.results.items b [] ++ [] ∷ [])) where
  pub list_kept : (r : Register) → listed_for mid r ≡ listed_for old r
  list_kept (registers.Parameter p) = ap (λ (l : List (List Place)). get_or l p []) parameters
  list_kept (registers.Result c m) = ap (λ (l : List (List (List Place))). get_or (get_or l c []) m []) results ∙ entry_kept [] old.results.items b within c m

  pub list_there : (r : Register) → HasList old r ⊎ (r ≡ registers.Result b n) → HasList mid r
  list_there (registers.Parameter p) (inl h) = let same = ap length parameters in omega arith
  list_there (registers.Parameter p) (inr e) = cc
  list_there (registers.Result c m) (inl h) = subst (λ (l : List (List (List Place))). m < length (get_or l c [])) (sym results) (entry_there [] old.results.items b within c m (inl h))
  list_there (registers.Result c m) (inr e) =
      let block : c ≡ b = cc in
      let number : m ≡ n = cc in
      subst (λ (l : List (List (List Place))). m < length (get_or l c [])) (sym results) (entry_there [] old.results.items b within c m (inr (block, omega arith)))
