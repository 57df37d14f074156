-- The uses of a register are replaced at one place, and so place by place at all of them.
use Rattle.draft.proofs.Common.{◌≡◌, ◌⊎◌, inl, inr, ℕ, List, [], ◌∷◌, length, Some, map, refl, sym, ap, subst, ◌∙◌, arith, Contains, slice_get, cases_eq, IsBlock, IsKnown, Block, Function, Inst, Operand, Register, Terminator, substituted_end, substituted_inst, substituted_operand, changed_at, end_changed, inst_changed, instead, replaced, replaced_at, with_block, operands_at, numbers_of, orders_of, none, IsPlaceIn, IsReader, arena_place, IsWhole, Draft, Place, inst_there, known_kept, is_same_register, AreFew, DiffersAt, is_same_place, written_reads}
use Rattle.ir_core.specs.declared.operand.Operand.TheVariants as operands
use Rattle.draft.proofs.Changed.{IsRecounted, differs, few}
use Rattle.draft.proofs.Exchanging.{end_differs, still_few}
use Rattle.draft.proofs.Replacing.{all_stay, replaced_at_end, replaced_at_inst, replaced_first, stay_twice, unread_stays}
use Rattle.draft.proofs.Rows.{first_or_later}
use Rattle.draft.proofs.Swapped.{end_reads_now, inst_reads_now, targets_stay, whole_end_swapped, whole_swapped}
use Rattle.draft.proofs.Wholeness.{few_insts}

-- the arena with other blocks
abbrev pub arena_with : Function → List Block → Function
arena_with f blocks = record { name = f.name; before = f.before; width = f.width; parameters = f.parameters; after = f.after; blocks = blocks }

pub swapped_arena : (f : Function) (blocks : List Block) (p : Place) (from : Register) (to : Operand)
    → (p.number ≡ none → blocks ≡ changed_at p.block (end_changed (substituted_end (instead from to))) f.blocks)
    → (¬ (p.number ≡ none) → blocks ≡ changed_at p.block (inst_changed p.number (substituted_inst (instead from to))) f.blocks)
    → arena_with f blocks ≡ replaced_at f p from to
swapped_arena f blocks p from to end inst = elim (cases_eq p.number none) [
  | inl is ↦ ap (arena_with f) (end is) ∙ sym (replaced_at_end from to f p is)
  | inr other ↦ ap (arena_with f) (inst other) ∙ sym (replaced_at_inst from to f p other)
]

module _ (old new : Draft) (from : Register) (to : Operand) (p : Place) (whole : IsWhole old) (inside : IsPlaceIn old.arena p) (arena : new.arena ≡ replaced_at old.arena p from to) where
  abbrev end_place : Place
  end_place = record { block = p.block; number = none }

  abbrev change : Inst → Inst
  change = substituted_inst (instead from to)

  abbrev swap_end : Terminator → Terminator
  swap_end = substituted_end (instead from to)

  at_end : p.number ≡ none → new.arena ≡ with_block old.arena p.block (end_changed swap_end)
  at_end is = arena ∙ replaced_at_end from to old.arena p is

  at_inst : ¬ (p.number ≡ none) → new.arena ≡ with_block old.arena p.block (inst_changed p.number change)
  at_inst other = arena ∙ replaced_at_inst from to old.arena p other

  p_is : p.number ≡ none → end_place ≡ p
  p_is is = ap (λ (n : ℕ). let q : Place = record { block = p.block; number = n } in q) (sym is)

  there : ¬ (p.number ≡ none) → (block : Block) × (inst : Inst) × IsBlock old.arena p.block block × (slice_get block.insts p.number ≡ Some inst)
  there other =
      let (block, at, side) = inside in
      elim side [
        | inl within ↦ inst_there old.arena p.block p.number (block, at, within)
        | inr is ↦ absurd (other is)
      ]

  pub reads_after : operands_at new.arena p ≡ map (substituted_operand (instead from to)) (operands_at old.arena p)
  reads_after = elim (cases_eq p.number none) [
    | inl is ↦
        let (block, at, side) = inside in
        subst (λ (q : Place). operands_at new.arena q ≡ map (substituted_operand (instead from to)) (operands_at old.arena q)) (p_is is) (end_reads_now old new from to p.block whole block at (at_end is))
    | inr other ↦
        let (block, inst, at, here) = there other in
        inst_reads_now old new from to p.block p.number whole block inst at here (at_inst other)
  ]

  pub differs_after : DiffersAt old.arena new.arena p
  differs_after = elim (cases_eq p.number none) [
    | inl is ↦
        let (block, at, side) = inside in
        subst (DiffersAt old.arena new.arena) (p_is is)
        (subst (λ (f : Function). DiffersAt old.arena f end_place) (sym (at_end is)) (end_differs old.arena (few_insts old whole) p.block swap_end block at (targets_stay (instead from to))))
    | inr other ↦
        let (block, inst, at, here) = there other in
        differs old new p.block p.number change whole block inst at here (at_inst other)
  ]

  pub few_after : AreFew new.arena
  few_after = elim (cases_eq p.number none) [
    | inl is ↦
        let (block, at, side) = inside in
        let same_count : (x : Block) → length (end_changed swap_end x).insts ≡ length x.insts = λ x. refl in
        subst AreFew (sym (at_end is)) (still_few old.arena p.block (end_changed swap_end) block at same_count (few_insts old whole))
    | inr other ↦
        let (block, inst, at, here) = there other in
        few old new p.block p.number change whole block inst at here (at_inst other)
  ]

  pub whole_after : IsKnown old.arena to → new.orders.items ≡ old.orders.items → new.stand.items ≡ old.stand.items → IsRecounted old new p → IsWhole new
  whole_after known orders stand recounted = elim (cases_eq p.number none) [
    | inl is ↦
        let (block, at, side) = inside in
        whole_end_swapped old new from to p.block whole block at (at_end is) (block, at, inr refl) known orders stand (subst (IsRecounted old new) (sym (p_is is)) recounted)
    | inr other ↦
        let (block, inst, at, here) = there other in
        whole_swapped old new from to p.block p.number whole block inst at here (at_inst other) inside known orders stand recounted
  ]

-- ---- at all places

-- The uses of the register are replaced at all places but those that are left.
pub record IsReplacing (old now : Draft) (from : Register) (to : Operand) (left : List Place) : Type 0 where
  pub whole : IsWhole now
  pub arena : replaced now.arena from to ≡ replaced old.arena from to
  pub numbers : numbers_of now ≡ numbers_of old
  pub orders : orders_of now ≡ orders_of old
  pub dead_candidates : now.dead_candidates.items ≡ old.dead_candidates.items
  pub known : IsKnown now.arena to
  pub places : (p : Place) → IsPlaceIn old.arena p → IsPlaceIn now.arena p
  pub rest : (p : Place) (a : Operand) → IsPlaceIn now.arena p → Contains (operands_at now.arena p) a → (substituted_operand (instead from to) a ≡ a) ⊎ Contains left p

stays_or_read : (from : Register) (to a : Operand) → (substituted_operand (instead from to) a ≡ a) ⊎ (a ≡ operands.Register from)
stays_or_read from to (operands.Register r) = elim (is_same_register r from) [
  | inl same ↦ inr (ap (λ (s : Register). operands.Register s) same)
  | inr apart ↦ inl (unread_stays from to (operands.Register r) (λ e. apart (let is : r ≡ from = cc in is)))
]
stays_or_read from to (operands.Number n) = inl refl
stays_or_read from to operands.Undef = inl refl
stays_or_read from to operands.Poison = inl refl

pub replacing_begins : (old now : Draft) (from : Register) (to : Operand) (all : List Place) → IsWhole now → now.arena ≡ old.arena → numbers_of now ≡ numbers_of old → orders_of now ≡ orders_of old → now.dead_candidates.items ≡ old.dead_candidates.items
    → IsKnown old.arena to → ((p : Place) → IsPlaceIn now.arena p → IsReader now.arena from p → Contains all p) → IsReplacing old now from to all
replacing_begins old now from to all whole arena numbers orders dead_candidates known complete = record {
  whole = whole;
  arena = ap (λ (f : Function). replaced f from to) arena;
  numbers = numbers;
  orders = orders;
  dead_candidates = dead_candidates;
  known = subst (λ (f : Function). IsKnown f to) (sym arena) known;
  places = λ p inside. subst (λ (f : Function). IsPlaceIn f p) (sym arena) inside;
  rest = λ p a inside reads. elim (stays_or_read from to a) [
    | inl stays ↦ inl stays
    | inr is ↦ inr (complete p inside (written_reads now.arena p.block (arena_place now.arena p) from (subst (Contains (operands_at now.arena p)) is reads)))
  ];
}

pub replacing_goes : (old now new : Draft) (from : Register) (to : Operand) (p : Place) (left : List Place) → IsReplacing old now from to (p ∷ left) → IsPlaceIn now.arena p
    → IsWhole new → new.arena ≡ replaced_at now.arena p from to → numbers_of new ≡ numbers_of now → orders_of new ≡ orders_of now → new.dead_candidates.items ≡ now.dead_candidates.items
    → IsReplacing old new from to left
replacing_goes old now new from to p left so_far inside whole arena numbers orders dead_candidates =
    let differs = differs_after now new from to p so_far.whole inside arena in
    let reads = reads_after now new from to p so_far.whole inside arena in
    record {
      whole = whole;
      arena = ap (λ (f : Function). replaced f from to) arena ∙ replaced_first from to now.arena p ∙ so_far.arena;
      numbers = numbers ∙ so_far.numbers;
      orders = orders ∙ so_far.orders;
      dead_candidates = dead_candidates ∙ so_far.dead_candidates;
      known = known_kept now.arena new.arena differs.to to so_far.known;
      places = λ q was. (differs.places q).1 (so_far.places q was);
      rest = λ q a is read. elim (is_same_place q p) [
        | inl same ↦ inl (stay_twice from to (operands_at new.arena p) (operands_at now.arena p) reads a (subst (λ (x : Place). Contains (operands_at new.arena x) a) same read))
        | inr apart ↦
            let was = (differs.places q).0 is in
            elim (so_far.rest q a was (subst (λ (l : List Operand). Contains l a) (differs.elsewhere q was apart) read)) [
              | inl stays ↦ inl stays
              | inr waits ↦ elim (first_or_later p left q waits) [
                | inl first ↦ absurd (apart first)
                | inr later ↦ inr later
              ]
            ]
      ];
    }

nothing_left : (p : Place) → Contains {X = Place} [] p → ⊥
nothing_left p (k, within, is) = absurd (omega arith)

pub replacing_ends : (old now : Draft) (from : Register) (to : Operand) → IsReplacing old now from to [] → now.arena ≡ replaced old.arena from to
replacing_ends old now from to so_far =
    sym (all_stay from to now.arena (few_insts now so_far.whole) (λ p inside a read. elim (so_far.rest p a inside read) [
      | inl stays ↦ stays
      | inr waits ↦ absurd (nothing_left p waits)
    ]))
    ∙ so_far.arena
