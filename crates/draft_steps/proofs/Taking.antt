-- Dead code elimination in a draft, step by step.
use Rattle.draft_steps.proofs.Common.{◌≡◌, ℕ, zero, suc, ◌<◌, ◌≤◌, ◌⊎◌, inl, inr, Bool, true, false, ◌↔◌, List, [], ◌∷◌, ◌++◌, length, map, get_or, refl, sym, ap, subst, ◌∙◌, arith, Contains, filter_map, cases_Bool, cases_lt, get_or_past, Contains-append_cases, Contains-append_left, Contains-append_right, slice_get_cases, slice_get_within, end_of, Function, Operand, Register, Op, cases_in, first_in, later_in, not_in_empty, IsNeeded, by_end, by_inst, ReadsRegister, map_in, IsNamedAt, IsUseCount, changed_at, with_inst_removed, without, AreRead, IsEliminating, IsNeededWith, ends, is_one, operands_at, register_of, Stands, numbers_in, numbers_of, none, arena_place, IsWhole, Draft, Place, arena_place_inst, reads_written, marked, marked_stands, stands_marked, stands_there}
use Rattle.ir_core.specs.declared.operand.Operand.TheVariants as operands
use Rattle.ir_core.specs.declared.operand.Register.TheVariants as registers
use Rattle.needed.specs.Operands.{operands_of}
use Rattle.draft_steps.specs.DeadCode.{reads}
use Rattle.places.specs.Orders.{place_in}
use Rattle.draft_steps.proofs.FiniteOrder.{from_last}
use Rattle.draft_steps.proofs.Needing.{reader_of}
use Rattle.draft_steps.proofs.Silencing.{cleaning_less}
use Rattle.draft_steps.proofs.RowPlaces.{contained, in_or_out, is_in}
use Rattle.draft_steps.proofs.WhoReads.{EndReads, InstReads, end_reads_it, who}

-- all numbers of some rows, each with its row
abbrev all_in : List (List ℕ) → List (ℕ × ℕ)
all_in [] = []
all_in (row ∷ rows) = map (λ n. (0, n)) row ++ map (λ (p : ℕ × ℕ). (suc p.0, p.1)) (all_in rows)

has_all : (rows : List (List ℕ)) (b n : ℕ) → Contains (get_or rows b []) n → Contains (all_in rows) (b, n)
has_all [] b n has = absurd (not_in_empty n has)
has_all (row ∷ rows) zero n has = Contains-append_left (map (λ n. (0, n)) row) (map (λ (p : ℕ × ℕ). (suc p.0, p.1)) (all_in rows)) (0, n) (map_in (λ n. (0, n)) row n has)
has_all (row ∷ rows) (suc b) n has =
    Contains-append_right (map (λ n. (0, n)) row) (map (λ (p : ℕ × ℕ). (suc p.0, p.1)) (all_in rows)) (suc b, n)
    (map_in (λ (p : ℕ × ℕ). (suc p.0, p.1)) (all_in rows) (b, n) (has_all rows b n has))

-- the register is not the result of an instruction that stands
abbrev pub IsGone : Draft → Register → Type 0
IsGone d r = (b n : ℕ) → r ≡ registers.Result b n → ¬ Stands d b n

module _ (d : Draft) (whole : IsWhole d) where
  pub stands_or : (b n : ℕ) → Stands d b n ⊎ ¬ Stands d b n
  stands_or b n =
      elim (in_or_out (numbers_in d b) n) [
        | inl there ↦ inl (contained (numbers_in d b) n there)
        | inr out ↦ inr (λ stands. apart (place_in (numbers_in d b) n) (length (numbers_in d b)) out (is_in (numbers_in d b) n stands))
      ]
    where
      apart : (p l : ℕ) → p ≡ l → p < l → ⊥
      apart p l same lt = omega arith

  -- an instruction stands where its flag is set
  pub stands_marks : (b n : ℕ) → (get_or (get_or d.stand.items b []) n false ≡ true) ↔ Stands d b n
  stands_marks b n = (
    λ there. elim (slice_get_cases d.arena.blocks b).1 [
      | inl (block, within, is, at) ↦ elim (cases_lt n (length (get_or d.stand.items b []))) [
        | inl lt ↦ let same : length (get_or d.stand.items b []) ≡ length block.insts = (whole.rows b block is).marked in marked_stands d whole b block is n (omega (arith, lt, same)) there
        | inr past ↦ absurd (let clash : true ≡ false = sym there ∙ get_or_past (get_or d.stand.items b []) n false past in cc)
      ]
      | inr (past, absent) ↦
          let same : length d.stand.items ≡ length d.arena.blocks = whole.marked in
          let none : get_or d.stand.items b [] ≡ [] = get_or_past d.stand.items b [] (omega (arith, past, same)) in
          absurd (let clash : true ≡ false = sym there ∙ ap (λ (row : List Bool). get_or row n false) none in cc)
    ],
    λ stands. let (block, is, lt) = stands_there d whole b n stands in (stands_marked d whole b block is n stands).1,
  )

  -- an instruction that doesn't stand reads no register
  pub gone_reads_nothing : (b n : ℕ) (r : Register) → ¬ Stands d b n → InstReads d.arena b n r → ⊥
  gone_reads_nothing b n r out i =
      elim (cases_Bool (marked (get_or d.stand.items b []) n)) [
        | inl there ↦ out (marked_stands d whole b i.block i.is_block n (slice_get_within i.block.insts n i.inst i.is_inst) there)
        | inr none ↦
            let has : Contains (operands.Poison ∷ []) (operands.Register r) = subst (λ (op : Op). Contains (operands_of op) (operands.Register r)) ((whole.rows b i.block i.is_block).gone n i.inst i.is_inst none) i.has in
            elim (cases_in operands.Poison [] (operands.Register r) has) [ inl same ↦ cc | inr later ↦ not_in_empty (operands.Register r) later ]
      ]

  pub end_reads_there : (b k : ℕ) (r : Register) → EndReads d.arena b k r → ReadsRegister d.arena b (end_of d.arena b) r
  end_reads_there b k r e = end_reads_it d.arena b e.block r e.is_block e.has

  -- registers that are live, or not of instructions that stand, may be dropped from the worklist
  needed_dropping : (roots others : List Register) → ((r : Register) → Contains roots r → Contains others r ⊎ (IsNeeded d.arena r ⊎ IsGone d r)) → (r : Register) → IsNeededWith d.arena roots r → IsNeededWith d.arena others r ⊎ IsGone d r
  needed_dropping roots others all r (ends b h) = inl (ends b h)
  needed_dropping roots others all r (reads b k need h) =
      let rest : IsNeededWith d.arena others (registers.Result b k) ⊎ IsGone d (registers.Result b k) = needed_dropping roots others all (registers.Result b k) need in
      elim (who d.arena b k r h) [
        | inr e ↦ inl (ends b (end_reads_there b k r e))
        | inl i ↦ elim rest [
          | inl need_it ↦ inl (reads b k need_it h)
          | inr gone ↦ absurd (gone_reads_nothing b k r (gone b k refl) i)
        ]
      ]
  needed_dropping roots others all r (is_one has) =
      elim (all r has) [
        | inl other ↦ inl (is_one other)
        | inr known ↦ elim known [ inl need ↦ inl (with_none r need) | inr gone ↦ inr gone ]
      ]
    where
      with_none : (r : Register) → IsNeeded d.arena r → IsNeededWith d.arena others r
      with_none r (by_end b h) = ends b h
      with_none r (by_inst b k need h) = reads b k (with_none (registers.Result b k) need) h

  pub cleaning_dropping : (f : Function) (rows : List (List ℕ)) (roots others : List Register) → ((r : Register) → Contains roots r → Contains others r ⊎ (IsNeeded d.arena r ⊎ IsGone d r))
      → IsEliminating f rows d.arena (numbers_of d) roots → IsEliminating f rows d.arena (numbers_of d) others
  cleaning_dropping f rows roots others all is = record {
    keep = is.keep;
    is_left = is.is_left;
    keeps = is.keeps;
    needed = is.needed;
    was_needed = is.was_needed;
    waits = λ b n stands. elim (needed_dropping roots others all (registers.Result b n) (is.waits b n stands)) [
      | inl need ↦ need
      | inr gone ↦ absurd (gone b n refl stands)
    ];
  }

  -- where each register of the worklist whose instruction stands is live, all that stands is
  pub cleaning_done : (f : Function) (rows : List (List ℕ)) (roots : List Register) → ((b n : ℕ) → Contains roots (registers.Result b n) → Stands d b n → IsNeeded d.arena (registers.Result b n))
      → IsEliminating f rows d.arena (numbers_of d) roots → IsEliminating f rows d.arena (numbers_of d) []
  cleaning_done f rows roots all is = cleaning_dropping f rows roots [] (λ r has. inr (by r has)) is
    where
      by : (r : Register) → Contains roots r → IsNeeded d.arena r ⊎ IsGone d r
      by (registers.Parameter p) has = inr (λ b n e. absurd cc)
      by (registers.Result b n) has =
          elim (stands_or b n) [
            | inl stands ↦ inl (all b n has stands)
            | inr out ↦ inr (λ c m e.
                let block : b ≡ c = cc in
                let number : n ≡ m = cc in
                subst (λ (k : ℕ). ¬ Stands d c k) number (subst (λ (x : ℕ). ¬ Stands d x n) block out))
          ]

  -- where each instruction has a use, and is before its users in a strict order, each is live
  module _ (Before : ℕ × ℕ → ℕ × ℕ → Type 0) (apart : (p : ℕ × ℕ) → Stands d p.0 p.1 → ¬ Before p p) (transitive : (p q r : ℕ × ℕ) → Before p q → Before q r → Before p r)
      (up : (b n c k : ℕ) → Stands d c k → ReadsRegister d.arena c k (registers.Result b n) → Before (b, n) (c, k)) (read : AreRead d []) where
    abbrev BeforeStanding : ℕ × ℕ → ℕ × ℕ → Type 0
    BeforeStanding p q = Stands d q.0 q.1 × Before p q

    abbrev NeededThere : ℕ × ℕ → Type 0
    NeededThere p = Stands d p.0 p.1 → IsNeeded d.arena (registers.Result p.0 p.1)

    needed_through_readers : (p : ℕ × ℕ) → ((q : ℕ × ℕ) → BeforeStanding p q → NeededThere q) → NeededThere p
    needed_through_readers p behind stands =
        let r : Register = registers.Result p.0 p.1 in
        elim (read p.0 p.1 stands) [
          | inr waits ↦ absurd (not_in_empty r waits)
          | inl (c, k, h) ↦ elim (who d.arena c k r h) [
            | inr e ↦ by_end c (end_reads_there c k r e)
            | inl i ↦ elim (stands_or c k) [
              | inr out ↦ absurd (gone_reads_nothing c k r out i)
              | inl there ↦ by_inst c k (behind (c, k) (there, up p.0 p.1 c k there h) there) h
            ]
          ]
        ]

    pub all_needed : (b n : ℕ) → Stands d b n → IsNeeded d.arena (registers.Result b n)
    all_needed b n =
        from_last BeforeStanding (λ p own. apart p own.0 own.1) (λ p q r one two. (two.0, transitive p q r one.1 two.1)) NeededThere needed_through_readers
        (all_in (numbers_of d)) (λ p q behind. has_all (numbers_of d) q.0 q.1 behind.0) (b, n)

-- ---- an instruction without uses is removed

-- registers among operands
pub registers_among : (xs : List Operand) (r : Register) → Contains xs (operands.Register r) → Contains (filter_map register_of xs) r
registers_among [] r has = absurd (not_in_empty (operands.Register r) has)
registers_among (operands.Register s ∷ xs) r has =
    elim (cases_in (operands.Register s) xs (operands.Register r) has) [
      | inl same ↦ let register : s ≡ r = cc in subst (Contains (s ∷ filter_map register_of xs)) register (first_in s (filter_map register_of xs))
      | inr later ↦ later_in s (filter_map register_of xs) r (registers_among xs r later)
    ]
registers_among (operands.Number n ∷ xs) r has = registers_among xs r (elim (cases_in (operands.Number n) xs (operands.Register r) has) [ inl same ↦ absurd cc | inr later ↦ later ])
registers_among (operands.Undef ∷ xs) r has = registers_among xs r (elim (cases_in operands.Undef xs (operands.Register r) has) [ inl same ↦ absurd cc | inr later ↦ later ])
registers_among (operands.Poison ∷ xs) r has = registers_among xs r (elim (cases_in operands.Poison xs (operands.Register r) has) [ inl same ↦ absurd cc | inr later ↦ later ])

-- the registers that an instruction reads go on the worklist
pub reads_fall : (f : Function) (p : Place) (r : Register) → p.number < none → ReadsRegister f p.block p.number r → Contains (filter_map register_of (operands_at f p)) r
reads_fall f p r less h =
    let here : p.number ≡ arena_place f p = sym (arena_place_inst f p less) in
    registers_among (operands_at f p) r (reads_written f p.block (arena_place f p) r (subst (λ (k : ℕ). ReadsRegister f p.block k r) here h))

-- a register without uses is dead
pub unused : (f : Function) (r : Register) → IsUseCount f r 0 → ¬ IsNeeded f r
unused f r (places, are, none_of) need =
    let (b, k, h) = reader_of f r need in
    let named : IsNamedAt f r b k h.operand = (h.read, h.is_read, h.reads) in
    let there : Contains places (b, k, h.operand) = (are.each b k h.operand).1 named in
    let lt : there.0 < length places = there.1 in
    omega (arith, lt, none_of)

module _ (d d' : Draft) (whole : IsWhole d) (b n : ℕ) (stands : Stands d b n) (un : ¬ IsNeeded d.arena (registers.Result b n))
    (arena : d'.arena ≡ with_inst_removed d.arena b n) (numbers : numbers_of d' ≡ changed_at b (without n) (numbers_of d))
    (fell : d'.dead_candidates.items ≡ d.dead_candidates.items ++ filter_map register_of (operands_at d.arena (record { block = b; number = n }))) where
  abbrev read : List Register
  read = filter_map register_of (operands_at d.arena (record { block = b; number = n }))

  pub take_step : (f : Function) (rows : List (List ℕ)) (roots used : List Register) → ((r : Register) → Contains roots r → Contains (d.dead_candidates.items ++ used) r ⊎ (r ≡ registers.Result b n))
      → IsEliminating f rows d.arena (numbers_of d) roots → IsEliminating f rows d'.arena (numbers_of d') (d'.dead_candidates.items ++ used)
  take_step f rows roots used all is =
      let (block, is_block, lt) = stands_there d whole b n stands in
      let few : length block.insts ≤ none = (whole.rows b block is_block).few in
      let then : IsEliminating f rows (with_inst_removed d.arena b n) (changed_at b (without n) (numbers_of d)) (d'.dead_candidates.items ++ used) =
      cleaning_less f rows d.arena (numbers_of d) b n roots (d'.dead_candidates.items ++ used) is (block, is_block, lt) un
      (λ r has. elim (all r has) [ inl old ↦ inl (kept r old) | inr it ↦ inr it ])
      (λ r h. subst (λ (l : List Register). Contains (l ++ used) r) (sym fell) (Contains-append_left (d.dead_candidates.items ++ read) used r (Contains-append_right d.dead_candidates.items read r (reads_fall d.arena (record { block = b; number = n }) r (omega (arith, lt, few)) h)))) in
      subst (λ (g : Function). IsEliminating f rows g (numbers_of d') (d'.dead_candidates.items ++ used)) (sym arena)
      (subst (λ (l : List (List ℕ)). IsEliminating f rows (with_inst_removed d.arena b n) l (d'.dead_candidates.items ++ used)) (sym numbers) then)
    where
      kept : (r : Register) → Contains (d.dead_candidates.items ++ used) r → Contains (d'.dead_candidates.items ++ used) r
      kept r has =
          elim (Contains-append_cases d.dead_candidates.items used r has) [
            | inl early ↦ subst (λ (l : List Register). Contains (l ++ used) r) (sym fell) (Contains-append_left (d.dead_candidates.items ++ read) used r (Contains-append_left d.dead_candidates.items read r early))
            | inr late ↦ Contains-append_right d'.dead_candidates.items used r late
          ]
