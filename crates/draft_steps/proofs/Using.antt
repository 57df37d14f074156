-- The uses in a draft from which an instruction is removed: all others are there as before, and the registers that it
-- read go on the worklist.
use Rattle.draft_steps.proofs.Common.{◌≡◌, ℕ, zero, suc, ◌+◌, ◌<◌, ◌≤◌, ◌⊎◌, inl, inr, cond, List, [], ◌∷◌, ◌++◌, length, refl, sym, ap, subst, ◌∙◌, arith, Contains, slice_index_or, sum_by, filter_map, cases_Bool, cases_eq, sum_by-cons, Contains-append_cases, Contains-append_left, Contains-append_right, slice_get_within, HasInst, Block, Function, Inst, Operand, Register, first_in, later_in, not_in_empty, ReadsRegister, IsUseCount, changed_at, gone, inst_changed, with_inst_removed, without, AreRead, KeepsUses, registers_read, names, operands_at, register_of, times, times_in_function, Stands, numbers_of, none, IsWhole, Draft, changed_sum, inst_there, one_if, inst_differs, names_is, AreFew, DiffersAt, operands_at_inst, few_insts}
use Rattle.std.proofs.lemmas.List.{length-append}
use Rattle.ir_core.specs.declared.operand.Operand.TheVariants as operands
use Rattle.ir_core.specs.declared.operand.Register.TheVariants as registers
use Rattle.ir_meaning.proofs.Pieces.{contains_at, some_at}
use Rattle.needed.specs.Operands.{operands_of}
use Rattle.draft_steps.proofs.Silencing.{taken_out_is_silenced, without_of}
use Rattle.draft_steps.proofs.Taking.{IsGone, reads_fall, registers_among}

-- a register that is counted among operands is one of them
counted_contains : (r : Register) (xs : List Operand) → (times r xs ≡ 0 → ⊥) → Contains xs (operands.Register r)
counted_contains r [] some = absurd (some refl)
counted_contains r (x ∷ xs) some =
    elim (cases_Bool (names r x)) [
      | inl is ↦ subst (Contains (x ∷ xs)) (names_is r x is) (first_in x xs)
      | inr other ↦
          let first : one_if r x ≡ 0 = ap (λ c. cond c 1 0) other in
          let counts = sum_by-cons (one_if r) x xs in
          later_in x xs (operands.Register r) (counted_contains r xs (λ none. some (omega (arith, none, first, counts))))
    ]

-- where an instruction is removed, a register has as many uses as before, or the instruction read it
pub less_often : (f : Function) → AreFew f → (b n : ℕ) → HasInst f b n → (r : Register)
    → (times_in_function r f ≤ times_in_function r (with_inst_removed f b n)) ⊎ Contains (filter_map register_of (operands_at f (record { block = b; number = n }))) r
less_often f few b n has r =
    let (block, inst, is_block, here) = inst_there f b n has in
    let less : n < length block.insts = slice_get_within block.insts n inst here in
    let low : length block.insts ≤ none = few b block is_block in
    let differs : DiffersAt f (with_inst_removed f b n) (record { block = b; number = n }) = inst_differs f few b n gone block inst is_block here in
    let counted = differs.times_differ r in
    elim (cases_eq (times r (operands_at f (record { block = b; number = n }))) 0) [
      | inl nowhere ↦ inl (omega arith)
      | inr somewhere ↦ inr (registers_among (operands_at f (record { block = b; number = n })) r (counted_contains r (operands_at f (record { block = b; number = n })) somewhere))
    ]

-- ---- what stands

-- what stands in rows without a number stood before, and is another
pub less_in : (rows : List (List ℕ)) (b n c m : ℕ) → Contains (slice_index_or (changed_at b (without n) rows) c []) m → Contains (slice_index_or rows c []) m × ((c ≡ b) × (m ≡ n) → ⊥)
less_in [] b n c m has = absurd (not_in_empty m has)
less_in (row ∷ rows) zero n zero m has = let (had, ne) = without_of n row m has in (had, λ e. ne e.1)
less_in (row ∷ rows) zero n (suc c) m has = (has, λ e. let same : suc c ≡ zero = e.0 in cc)
less_in (row ∷ rows) (suc b) n zero m has = (has, λ e. let same : zero ≡ suc b = e.0 in cc)
less_in (row ∷ rows) (suc b) n (suc c) m has =
    let (had, other) = less_in rows b n c m has in
    (had, λ e. other (let same : c ≡ b = let both : suc c ≡ suc b = e.0 in cc in same, e.1))

-- ---- the draft

-- a register may be dropped from the worklist where its instruction doesn't stand
pub uses_dropping : (was d : Draft) (roots others : List Register) → ((r : Register) → Contains roots r → Contains others r ⊎ IsGone d r) → KeepsUses was d roots → KeepsUses was d others
uses_dropping was d roots others all keeps = λ b n stands. elim (keeps b n stands) [
  | inl enough ↦ inl enough
  | inr waits ↦ elim (all (registers.Result b n) waits) [ inl other ↦ inr other | inr gone ↦ absurd (gone b n refl stands) ]
]

-- and where it has a use
pub read_dropping : (d : Draft) (roots others : List Register) → ((r : Register) → Contains roots r → Contains others r ⊎ (IsGone d r ⊎ ((b : ℕ) × (k : ℕ) × ReadsRegister d.arena b k r))) → AreRead d roots → AreRead d others
read_dropping d roots others all are = λ b n stands. elim (are b n stands) [
  | inl read ↦ inl read
  | inr waits ↦ elim (all (registers.Result b n) waits) [
    | inl other ↦ inr other
    | inr known ↦ elim known [ inl gone ↦ absurd (gone b n refl stands) | inr read ↦ inl read ]
  ]
]

module _ (d d' : Draft) (whole : IsWhole d) (b n : ℕ) (has : HasInst d.arena b n)
    (arena : d'.arena ≡ with_inst_removed d.arena b n) (numbers : numbers_of d' ≡ changed_at b (without n) (numbers_of d))
    (fell : d'.dead_candidates.items ≡ d.dead_candidates.items ++ filter_map register_of (operands_at d.arena (record { block = b; number = n }))) where
  pub stood : (c m : ℕ) → Stands d' c m → Stands d c m × ((c ≡ b) × (m ≡ n) → ⊥)
  stood c m stands = less_in (numbers_of d) b n c m (subst (λ (rows : List (List ℕ)). Contains (slice_index_or rows c []) m) numbers stands)

  -- a register that the instruction read is on the worklist
  falls : (r : Register) → ReadsRegister d.arena b n r → Contains d'.dead_candidates.items r
  falls r h =
      let (block, is_block, lt) = has in
      let few : length block.insts ≤ none = (whole.rows b block is_block).few in
      subst (λ (l : List Register). Contains l r) (sym fell)
      (Contains-append_right d.dead_candidates.items (filter_map register_of (operands_at d.arena (record { block = b; number = n }))) r (reads_fall d.arena (record { block = b; number = n }) r (omega (arith, lt, few)) h))

  still_falls : (r : Register) → Contains d.dead_candidates.items r → Contains d'.dead_candidates.items r
  still_falls r old = subst (λ (l : List Register). Contains l r) (sym fell) (Contains-append_left d.dead_candidates.items (filter_map register_of (operands_at d.arena (record { block = b; number = n }))) r old)

  -- what read a register still does, or the register is on the worklist
  read_stays : (c k : ℕ) (r : Register) → ReadsRegister d.arena c k r → ReadsRegister d'.arena c k r ⊎ Contains d'.dead_candidates.items r
  read_stays c k r h =
      elim ((taken_out_is_silenced d.arena b n has).stay c k r h) [
        | inl here ↦ inl (subst (λ (f : Function). ReadsRegister f c k r) (sym arena) here)
        | inr same ↦ inr (falls r (subst (λ (j : ℕ). ReadsRegister d.arena b j r) same.1 (subst (λ (x : ℕ). ReadsRegister d.arena x k r) same.0 h)))
      ]

  -- it has as many uses, or is on the worklist
  as_often : (r : Register) → (times_in_function r d.arena ≤ times_in_function r d'.arena) ⊎ Contains d'.dead_candidates.items r
  as_often r = elim (less_often d.arena (few_insts d whole) b n has r) [
    | inl enough ↦ inl (let arenas = ap (times_in_function r) arena in omega arith)
    | inr among ↦ inr (subst (λ (l : List Register). Contains l r) (sym fell) (Contains-append_right d.dead_candidates.items (filter_map register_of (operands_at d.arena (record { block = b; number = n }))) r among))
  ]

  pub uses_less : (was : Draft) (roots used : List Register) → ((r : Register) → Contains roots r → Contains (d.dead_candidates.items ++ used) r ⊎ (r ≡ registers.Result b n)) → KeepsUses was d roots → KeepsUses was d' (d'.dead_candidates.items ++ used)
  uses_less was roots used all keeps = λ c m stands.
      let (had, other) = stood c m stands in
      elim (keeps c m had) [
        | inl enough ↦ elim (as_often (registers.Result c m)) [
          | inl as_many ↦ inl (omega arith)
          | inr dead_candidates ↦ inr (Contains-append_left d'.dead_candidates.items used (registers.Result c m) dead_candidates)
        ]
        | inr waits ↦ elim (all (registers.Result c m) waits) [
          | inl old ↦ inr (elim (Contains-append_cases d.dead_candidates.items used (registers.Result c m) old) [
            | inl early ↦ Contains-append_left d'.dead_candidates.items used (registers.Result c m) (still_falls (registers.Result c m) early)
            | inr late ↦ Contains-append_right d'.dead_candidates.items used (registers.Result c m) late
          ])
          | inr it ↦
              let block : c ≡ b = cc in
              let number : m ≡ n = cc in
              absurd (other (block, number))
        ]
      ]

  pub read_less : (roots : List Register) → ((r : Register) → Contains roots r → Contains d.dead_candidates.items r ⊎ (r ≡ registers.Result b n)) → AreRead d roots → AreRead d' d'.dead_candidates.items
  read_less roots all are = λ c m stands.
      let (had, other) = stood c m stands in
      elim (are c m had) [
        | inl (x, k, h) ↦ elim (read_stays x k (registers.Result c m) h) [ inl here ↦ inl (x, k, here) | inr dead_candidates ↦ inr dead_candidates ]
        | inr waits ↦ elim (all (registers.Result c m) waits) [
          | inl old ↦ inr (still_falls (registers.Result c m) old)
          | inr it ↦
              let block : c ≡ b = cc in
              let number : m ≡ n = cc in
              absurd (other (block, number))
        ]
      ]

  -- operands that are registers, and registers on the worklist, are as many as before
  pub as_many_read : registers_read d'.arena + length d'.dead_candidates.items ≡ registers_read d.arena + length d.dead_candidates.items
  as_many_read =
      let (block, inst, is_block, here) = inst_there d.arena b n has in
      let few : length block.insts ≤ none = (whole.rows b block is_block).few in
      let lt : n < length block.insts = slice_get_within block.insts n inst here in
      let reads : operands_at d.arena (record { block = b; number = n }) ≡ operands_of inst.op = operands_at_inst d.arena (record { block = b; number = n }) block inst is_block here (omega (arith, lt, few)) in
      let insts = changed_sum (λ (i : Inst). length (filter_map register_of (operands_of i.op))) n gone block.insts inst here in
      let blocks = changed_sum (λ (x : Block). sum_by (λ (i : Inst). length (filter_map register_of (operands_of i.op))) x.insts) b (inst_changed n gone) d.arena.blocks block is_block in
      let arenas : registers_read d'.arena ≡ registers_read (with_inst_removed d.arena b n) = ap registers_read arena in
      let falling : length d'.dead_candidates.items ≡ length d.dead_candidates.items + length (filter_map register_of (operands_of inst.op)) =
      ap length fell ∙ (length-append d.dead_candidates.items (filter_map register_of (operands_at d.arena (record { block = b; number = n }))) ∙ ap (λ (l : List Operand). length d.dead_candidates.items + length (filter_map register_of l)) reads) in
      omega arith

-- a register with a use is read somewhere
pub used_is_read : (f : Function) (r : Register) (count : ℕ) → IsUseCount f r count → 0 < count → (b : ℕ) × (k : ℕ) × ReadsRegister f b k r
used_is_read f r count (places, are, many) some =
    let found = some_at places 0 (omega (arith, many, some)) in
    let named = (are.each found.0.0 found.0.1 found.0.2).0 (contains_at places 0 found.0 found.1) in
    (found.0.0, found.0.1, record { operand = found.0.2; read = named.0; is_read = named.1; reads = named.2 })
