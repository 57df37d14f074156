-- Arenas in which one instruction or one terminator is changed.
use Rattle.draft.proofs.Common.{◌≡◌, ◌⊎◌, ◌↔◌, inl, inr, ℕ, zero, suc, ◌+◌, ◌<◌, List, [], ◌∷◌, length, Some, map, refl, sym, ap, subst, ◌∙◌, arith, slice_get, cases_eq, same_Some, slice_get_cases, slice_get_within, IsBlock, targets_of, Block, Function, Inst, Register, Terminator, operands_of, operands_at_end, changed_at, end_changed, inst_changed, with_block, operands_at, times, times_in, none, IsPlaceIn, Place, HasAll, changed_cases, changed_here, changed_length, changed_other, changed_sum, AreFew, DiffersAt, operands_at_inst, operands_at_terminator, same_place}

pub map_changed : {A B : Type 0} (g : A → B) (k : ℕ) (change : A → A) (xs : List A) → ((x : A) → g (change x) ≡ g x) → map g (changed_at k change xs) ≡ map g xs
map_changed g k change [] same = refl
map_changed {B = B} g zero change (x ∷ xs) same = ap (λ (y : B). y ∷ map g xs) (same x)
map_changed {B = B} g (suc k) change (x ∷ xs) same = ap (λ (l : List B). g x ∷ l) (map_changed g k change xs same)

module _ (f : Function) (b : ℕ) (change : Block → Block) (block : Block) (at : IsBlock f b block) where
  pub block_now : IsBlock (with_block f b change) b (change block)
  block_now = changed_here b change f.blocks block at

  pub block_other : (c : ℕ) (x : Block) → (c ≡ b → ⊥) → IsBlock f c x → IsBlock (with_block f b change) c x
  block_other c x apart is = changed_other b change f.blocks c apart ∙ is

  -- a block of the new function: the changed one, or one that was there
  pub block_cases : (c : ℕ) (x : Block) → IsBlock (with_block f b change) c x → ((c ≡ b) × (x ≡ change block)) ⊎ (¬ (c ≡ b) × IsBlock f c x)
  block_cases c x is = elim (changed_cases b change f.blocks c x is) [
    | inl (same, (y, there, now)) ↦ inl (same, now ∙ ap change (same_Some y block (sym there ∙ at)))
    | inr old ↦ inr old
  ]

  pub block_is : (c : ℕ) (x : Block) → c ≡ b → IsBlock f c x → x ≡ block
  block_is c x same is = same_Some x block (sym is ∙ ap (slice_get f.blocks) same ∙ at)

  -- the operands at places of other blocks are the same
  pub read_in_other : AreFew f → (q : Place) → (q.block ≡ b → ⊥) → IsPlaceIn f q → operands_at (with_block f b change) q ≡ operands_at f q
  read_in_other few q apart (x, is, inside) =
      let there = block_other q.block x apart is in
      let less = few q.block x is in
      elim inside [
        | inl within ↦
            elim (slice_get_cases x.insts q.number).1 [
              | inl (inst, in_list, here, same) ↦ operands_at_inst (with_block f b change) q x inst there here (omega arith) ∙ sym (operands_at_inst f q x inst is here (omega arith))
              | inr (past, absent) ↦ absurd (omega arith)
            ]
        | inr end ↦ operands_at_terminator (with_block f b change) q x there end ∙ sym (operands_at_terminator f q x is end)
      ]

module _ (f : Function) (b : ℕ) (change : Block → Block) (block : Block) (at : IsBlock f b block) (same_count : (x : Block) → length (change x).insts ≡ length x.insts) where
  -- each block has as many instructions as before
  pub counted_block : (c : ℕ) (x : Block) → IsBlock f c x → (y : Block) × IsBlock (with_block f b change) c y × (length y.insts ≡ length x.insts)
  counted_block c x is = elim (cases_eq c b) [
    | inl same ↦ (change block, subst (λ (d : ℕ). IsBlock (with_block f b change) d (change block)) (sym same) (block_now f b change block at), same_count block ∙ ap (λ (z : Block). length z.insts) (sym (block_is f b change block at c x same is)))
    | inr apart ↦ (x, block_other f b change block at c x apart is, refl)
  ]

  pub counted_back : (c : ℕ) (x : Block) → IsBlock (with_block f b change) c x → (y : Block) × IsBlock f c y × (length y.insts ≡ length x.insts)
  counted_back c x is = elim (block_cases f b change block at c x is) [
    | inl (same, now) ↦ (block, ap (slice_get f.blocks) same ∙ at, sym (same_count block) ∙ ap (λ (z : Block). length z.insts) (sym now))
    | inr (apart, old) ↦ (x, old, refl)
  ]

  pub has_to : HasAll f (with_block f b change)
  has_to = record {
    parameters = refl;
    insts = λ d j (x, is, within). let (y, there, count) = counted_block d x is in (y, there, omega arith);
  }

  pub has_back : HasAll (with_block f b change) f
  has_back = record {
    parameters = refl;
    insts = λ d j (x, is, within). let (y, there, count) = counted_back d x is in (y, there, omega arith);
  }

  pub same_places : (q : Place) → IsPlaceIn (with_block f b change) q ↔ IsPlaceIn f q
  same_places q = (
    λ (x, is, inside). let (y, there, count) = counted_back q.block x is in (y, there, elim inside [ inl within ↦ inl (omega arith) | inr end ↦ inr end ]),
    λ (x, is, inside). let (y, there, count) = counted_block q.block x is in (y, there, elim inside [ inl within ↦ inl (omega arith) | inr end ↦ inr end ]),
  )

  pub still_few : AreFew f → AreFew (with_block f b change)
  still_few few c x is = let (y, there, count) = counted_back c x is in let less = few c y there in omega arith

  module _ (few : AreFew f) where
    pub differs_at : (p : Place) → IsPlaceIn f p → ((x : Block) → targets_of (change x).end ≡ targets_of x.end)
        → ((q : Place) → q.block ≡ b → IsPlaceIn f q → ¬ (q ≡ p) → operands_at (with_block f b change) q ≡ operands_at f q)
        → ((r : Register) → times_in r (change block) + times r (operands_at f p) ≡ times_in r block + times r (operands_at (with_block f b change) p))
        → DiffersAt f (with_block f b change) p
    differs_at p inside same_targets others counted = record {
      inside = inside;
      to = has_to;
      back = has_back;
      places = same_places;
      flow = map_changed (λ (x : Block). targets_of x.end) b change f.blocks same_targets;
      elsewhere = λ q there apart. elim (cases_eq q.block b) [
        | inl same ↦ others q same there apart
        | inr other ↦ read_in_other f b change block at few q other there
      ];
      times_differ = λ r.
          let blocks = changed_sum (times_in r) b change f.blocks block at in
          let here = counted r in
          omega arith;
    }

-- ---- an instruction is another

module _ (f : Function) (few : AreFew f) (b n : ℕ) (change : Inst → Inst) (block : Block) (inst : Inst) (at : IsBlock f b block) (here : slice_get block.insts n ≡ Some inst) where
  abbrev pub inst_block : Block → Block
  inst_block = inst_changed n change

  abbrev inst_function : Function
  inst_function = with_block f b (inst_changed n change)

  abbrev inst_place : Place
  inst_place = record { block = b; number = n }

  pub inst_count : (x : Block) → length (inst_block x).insts ≡ length x.insts
  inst_count x = changed_length n change x.insts

  inst_within : n < length block.insts
  inst_within = slice_get_within block.insts n inst here

  inst_few : n < none
  inst_few = let less = few b block at in let within = inst_within in omega arith

  inst_inside : IsPlaceIn f inst_place
  inst_inside = (block, at, inl inst_within)

  inst_now : slice_get (changed_at n change block.insts) n ≡ Some (change inst)
  inst_now = changed_here n change block.insts inst here

  pub read_was : operands_at f inst_place ≡ operands_of inst.op
  read_was = operands_at_inst f inst_place block inst at here inst_few

  pub read_now : operands_at inst_function inst_place ≡ operands_of (change inst).op
  read_now = operands_at_inst inst_function inst_place (inst_block block) (change inst) (block_now f b inst_block block at) inst_now inst_few

  inst_others : (q : Place) → q.block ≡ b → IsPlaceIn f q → ¬ (q ≡ inst_place) → operands_at inst_function q ≡ operands_at f q
  inst_others q same (x, is, inside) apart =
      let x_is : x ≡ block = same_Some x block (sym is ∙ ap (slice_get f.blocks) same ∙ at) in
      let there : IsBlock inst_function q.block (inst_block x) = subst (λ (d : ℕ). IsBlock inst_function d (inst_block x)) (sym same) (subst (λ (z : Block). IsBlock inst_function b (inst_block z)) (sym x_is) (block_now f b inst_block block at)) in
      let less = few q.block x is in
      elim inside [
        | inl within ↦ elim (slice_get_cases x.insts q.number).1 [
          | inl (i, in_list, i_here, i_same) ↦
              let other : q.number ≡ n → ⊥ = λ e. apart (same_place q inst_place same e) in
              operands_at_inst inst_function q (inst_block x) i there (changed_other n change x.insts q.number other ∙ i_here) (omega arith)
              ∙ sym (operands_at_inst f q x i is i_here (omega arith))
          | inr (past, absent) ↦ absurd (omega arith)
        ]
        | inr end ↦ operands_at_terminator inst_function q (inst_block x) there end ∙ sym (operands_at_terminator f q x is end)
      ]

  pub inst_differs : DiffersAt f inst_function inst_place
  inst_differs = differs_at f b inst_block block at inst_count few inst_place inst_inside (λ x. refl) inst_others
      (λ r.
      let insts = changed_sum (λ (i : Inst). times r (operands_of i.op)) n change block.insts inst here in
      let was = ap (times r) read_was in
      let now = ap (times r) read_now in
      omega arith)

-- ---- a terminator is another

module _ (f : Function) (few : AreFew f) (b : ℕ) (change : Terminator → Terminator) (block : Block) (at : IsBlock f b block) (same_targets : (t : Terminator) → targets_of (change t) ≡ targets_of t) where
  abbrev pub end_block : Block → Block
  end_block = end_changed change

  abbrev end_function : Function
  end_function = with_block f b (end_changed change)

  abbrev end_place : Place
  end_place = record { block = b; number = none }

  end_inside : IsPlaceIn f end_place
  end_inside = (block, at, inr refl)

  end_now : IsBlock end_function b (end_block block)
  end_now = block_now f b end_block block at

  pub end_read_was : operands_at f end_place ≡ operands_at_end block.end
  end_read_was = operands_at_terminator f end_place block at refl

  pub end_read_now : operands_at end_function end_place ≡ operands_at_end (change block.end)
  end_read_now = operands_at_terminator end_function end_place (end_block block) end_now refl

  end_others : (q : Place) → q.block ≡ b → IsPlaceIn f q → ¬ (q ≡ end_place) → operands_at end_function q ≡ operands_at f q
  end_others q same (x, is, inside) apart =
      let x_is : x ≡ block = same_Some x block (sym is ∙ ap (slice_get f.blocks) same ∙ at) in
      let there : IsBlock end_function q.block (end_block x) = subst (λ (d : ℕ). IsBlock end_function d (end_block x)) (sym same) (subst (λ (z : Block). IsBlock end_function b (end_block z)) (sym x_is) end_now) in
      let less = few q.block x is in
      elim inside [
        | inl within ↦ elim (slice_get_cases x.insts q.number).1 [
          | inl (i, in_list, i_here, i_same) ↦ operands_at_inst end_function q (end_block x) i there i_here (omega arith) ∙ sym (operands_at_inst f q x i is i_here (omega arith))
          | inr (past, absent) ↦ absurd (omega arith)
        ]
        | inr end ↦ absurd (apart (same_place q end_place same end))
      ]

  pub end_differs : DiffersAt f end_function end_place
  end_differs = differs_at f b end_block block at (λ x. refl) few end_place end_inside (λ x. same_targets x.end) end_others
      (λ r.
      let was = ap (times r) end_read_was in
      let now = ap (times r) end_read_now in
      omega arith)
