-- A draft keeps its invariant where the uses of a register at one place are replaced.
use Rattle.draft.proofs.Common.{◌≡◌, ◌⊎◌, inl, inr, ℕ, Bool, List, [], length, get_or, Some, map, refl, sym, ap, subst, ◌∙◌, Contains, slice_get, cases_Bool, cond-false, slice_get-map, IsBlock, IsKnown, Block, Function, Inst, Freeze, Operand, Register, Terminator, targets_of, contained_at, contains_at, mapped, Substitution, substituted_end, substituted_inst, substituted_op, substituted_operand, end_changed, inst_changed, instead, same_register, with_block, operands_at, none, AreReadersOf, IsPlaceIn, arena_place, listed_for, AreRowsOf, HasNoPhi, IsWhole, Draft, Place, changed_length, same_register_is, AreFew, AreKnown, DiffersAt, written_reads}
use Rattle.ir_core.specs.declared.operand.Operand.TheVariants as operands
use Rattle.ir_core.specs.declared.terminator.Terminator.TheVariants as terminators
use Rattle.draft.proofs.Changed.{IsRecounted, block_of_new, blocks_count, differs, few, whole_changed}
use Rattle.draft.proofs.Cycles.{no_phi_changed, no_phi_end, no_phi_substituted}
use Rattle.draft.proofs.Exchanging.{block_cases, end_differs, end_read_now, end_read_was, read_now, read_was, still_few}
use Rattle.draft.proofs.Replacing.{instead_same}
use Rattle.draft.proofs.Substituted.{substituted_end_reads, substituted_reads}
use Rattle.draft.proofs.Wholeness.{all_known, few_insts, rows_swapped}

pub targets_stay : (to : Substitution) (t : Terminator) → targets_of (substituted_end to t) ≡ targets_of t
targets_stay to (terminators.Return a) = refl
targets_stay to (terminators.Jump b) = refl
targets_stay to (terminators.Branch c b other) = refl
targets_stay to (terminators.Switch a width other cases) = refl
targets_stay to terminators.Unreachable = refl

module _ (f : Function) (from : Register) (to : Operand) (p : Place) (now : List Operand) (read_now_is : now ≡ map (substituted_operand (instead from to)) (operands_at f p)) where
  -- an operand then is the replacement of one that there was
  was_read : (a : Operand) → Contains now a → (x : Operand) × Contains (operands_at f p) x × (substituted_operand (instead from to) x ≡ a)
  was_read a there =
      let at : (k : ℕ) × (slice_get now k ≡ Some a) = contained_at now a there in
      let found : (x : Operand) × (slice_get (operands_at f p) at.0 ≡ Some x) × (substituted_operand (instead from to) x ≡ a) =
      mapped (substituted_operand (instead from to)) (slice_get (operands_at f p) at.0) a (sym (slice_get-map (substituted_operand (instead from to)) (operands_at f p) at.0) ∙ ap (λ (l : List Operand). slice_get l at.0) (sym read_now_is) ∙ at.1) in
      (found.0, contains_at (operands_at f p) found.0 at.0 found.1, found.2)

  -- so it is known to the function
  operand_known : (x : Operand) → IsKnown f to → IsKnown f x → IsKnown f (substituted_operand (instead from to) x)
  operand_known (operands.Register r) known_to known = elim (cases_Bool (same_register r from)) [
    | inl same ↦ subst (IsKnown f) (sym (instead_same from to r (same_register_is r from same))) known_to
    | inr other ↦ subst (IsKnown f) (sym (cond-false (same_register r from) to (operands.Register r) other)) known
  ]
  operand_known (operands.Number n) known_to known = tt
  operand_known operands.Undef known_to known = tt
  operand_known operands.Poison known_to known = tt

  pub swapped_known : IsKnown f to → AreKnown f → IsPlaceIn f p → (a : Operand) → Contains now a → IsKnown f a
  swapped_known known_to known inside a there =
      let (x, read, is) = was_read a there in
      subst (IsKnown f) is (operand_known x known_to (known p x inside read))

  -- a register that is read then was read at the place, or is the one that replaces
  register_listed : (x : Operand) (r : Register) → substituted_operand (instead from to) x ≡ operands.Register r → (x ≡ operands.Register r) ⊎ (to ≡ operands.Register r)
  register_listed (operands.Register s) r is = elim (cases_Bool (same_register s from)) [
    | inl same ↦ inr (sym (instead_same from to s (same_register_is s from same)) ∙ is)
    | inr other ↦ inl (sym (cond-false (same_register s from) to (operands.Register s) other) ∙ is)
  ]
  register_listed (operands.Number n) r is = inl is
  register_listed operands.Undef r is = inl is
  register_listed operands.Poison r is = inl is

  pub swapped_listed : (d : Draft) → d.arena ≡ f → AreReadersOf d.arena d.readers → IsPlaceIn f p → (r : Register) → Contains now (operands.Register r) → Contains (listed_for d.readers r) p ⊎ (to ≡ operands.Register r)
  swapped_listed d same readers inside r there =
      let (x, read, is) = was_read (operands.Register r) there in
      elim (register_listed x r is) [
        | inl old ↦
            let read_r : Contains (operands_at f p) (operands.Register r) = subst (λ (a : Operand). Contains (operands_at f p) a) old read in
            let complete : AreReadersOf f d.readers = subst (λ (g : Function). AreReadersOf g d.readers) same readers in
            inl (complete.complete r p inside (written_reads f p.block (arena_place f p) r read_r))
        | inr put ↦ inr put
      ]

-- ---- at an instruction

module _ (old new : Draft) (from : Register) (to : Operand) (b n : ℕ) (whole : IsWhole old) (block : Block) (inst : Inst) (at : IsBlock old.arena b block) (here : slice_get block.insts n ≡ Some inst)
    (arena : new.arena ≡ with_block old.arena b (inst_changed n (substituted_inst (instead from to)))) where
  abbrev place : Place
  place = record { block = b; number = n }

  pub inst_reads_now : operands_at new.arena place ≡ map (substituted_operand (instead from to)) (operands_at old.arena place)
  inst_reads_now =
      ap (λ (f : Function). operands_at f place) arena
      ∙ read_now old.arena (few_insts old whole) b n (substituted_inst (instead from to)) block inst at here
      ∙ substituted_reads (instead from to) inst.op
      ∙ ap (map (substituted_operand (instead from to))) (sym (read_was old.arena (few_insts old whole) b n (substituted_inst (instead from to)) block inst at here))

  none_came : (i : Inst) → i.op ≡ Freeze operands.Poison → (substituted_inst (instead from to) i).op ≡ Freeze operands.Poison
  none_came i is = ap (substituted_op (instead from to)) is

  pub whole_swapped : IsPlaceIn old.arena place → IsKnown old.arena to → new.orders.items ≡ old.orders.items → new.stand.items ≡ old.stand.items → IsRecounted old new place → IsWhole new
  whole_swapped inside known orders stand recounted =
      let change : Inst → Inst = substituted_inst (instead from to) in
      whole_changed old new place whole (differs old new b n change whole block inst at here arena) recounted (few old new b n change whole block inst at here arena)
      (blocks_count old new b n change whole block inst at here arena) (ap length orders) (ap length stand)
      (λ c x is. subst (λ (rows : List (List ℕ)). AreRowsOf x (get_or rows c []) (get_or new.stand.items c [])) (sym orders)
      (subst (λ (rows : List (List Bool)). AreRowsOf x (get_or old.orders.items c []) (get_or rows c [])) (sym stand)
      (elim (block_of_new old new b n change whole block inst at here arena c x is) [
        | inl (same, x_is) ↦
            subst (λ (z : Block). AreRowsOf z (get_or old.orders.items c []) (get_or old.stand.items c [])) (sym x_is)
            (subst (λ (d : ℕ). AreRowsOf (inst_changed n change block) (get_or old.orders.items d []) (get_or old.stand.items d [])) (sym same)
            (rows_swapped block (get_or old.orders.items b []) (get_or old.stand.items b []) n change (whole.rows b block at) none_came))
        | inr (apart, before) ↦ whole.rows c x before
      ])))
      (swapped_known old.arena from to place (operands_at new.arena place) inst_reads_now known (all_known old whole) inside)
      (λ no_phi. subst HasNoPhi (sym arena) (no_phi_changed old.arena b block at no_phi n change (λ i other. no_phi_substituted (instead from to) i.op other)))

-- ---- at a terminator

module _ (old new : Draft) (from : Register) (to : Operand) (b : ℕ) (whole : IsWhole old) (block : Block) (at : IsBlock old.arena b block)
    (arena : new.arena ≡ with_block old.arena b (end_changed (substituted_end (instead from to)))) where
  abbrev end_place : Place
  end_place = record { block = b; number = none }

  abbrev swap_end : Terminator → Terminator
  swap_end = substituted_end (instead from to)

  targets : (t : Terminator) → targets_of (swap_end t) ≡ targets_of t
  targets t = targets_stay (instead from to) t

  pub end_reads_now : operands_at new.arena end_place ≡ map (substituted_operand (instead from to)) (operands_at old.arena end_place)
  end_reads_now =
      ap (λ (f : Function). operands_at f end_place) arena
      ∙ end_read_now old.arena (few_insts old whole) b swap_end block at targets
      ∙ substituted_end_reads (instead from to) block.end
      ∙ ap (map (substituted_operand (instead from to))) (sym (end_read_was old.arena (few_insts old whole) b swap_end block at targets))

  pub whole_end_swapped : IsPlaceIn old.arena end_place → IsKnown old.arena to → new.orders.items ≡ old.orders.items → new.stand.items ≡ old.stand.items → IsRecounted old new end_place → IsWhole new
  whole_end_swapped inside known orders stand recounted =
      let same_count : (x : Block) → length (end_changed swap_end x).insts ≡ length x.insts = λ x. refl in
      whole_changed old new end_place whole
      (subst (λ (f : Function). DiffersAt old.arena f end_place) (sym arena) (end_differs old.arena (few_insts old whole) b swap_end block at targets)) recounted
      (subst AreFew (sym arena) (still_few old.arena b (end_changed swap_end) block at same_count (few_insts old whole)))
      (ap (λ (f : Function). length f.blocks) arena ∙ changed_length b (end_changed swap_end) old.arena.blocks) (ap length orders) (ap length stand)
      (λ c x is. subst (λ (rows : List (List ℕ)). AreRowsOf x (get_or rows c []) (get_or new.stand.items c [])) (sym orders)
      (subst (λ (rows : List (List Bool)). AreRowsOf x (get_or old.orders.items c []) (get_or rows c [])) (sym stand)
      (elim (block_cases old.arena b (end_changed swap_end) block at c x (ap (λ (f : Function). slice_get f.blocks c) (sym arena) ∙ is)) [
        | inl (same, x_is) ↦
            subst (λ (z : Block). AreRowsOf z (get_or old.orders.items c []) (get_or old.stand.items c [])) (sym x_is)
            (subst (λ (d : ℕ). AreRowsOf (end_changed swap_end block) (get_or old.orders.items d []) (get_or old.stand.items d [])) (sym same)
            (end_rows block (get_or old.orders.items b []) (get_or old.stand.items b []) (whole.rows b block at)))
        | inr (apart, before) ↦ whole.rows c x before
      ])))
      (swapped_known old.arena from to end_place (operands_at new.arena end_place) end_reads_now known (all_known old whole) inside)
      (λ no_phi. subst HasNoPhi (sym arena) (no_phi_end old.arena b block at no_phi swap_end))
    where
      end_rows : (x : Block) (order : List ℕ) (marks : List Bool) → AreRowsOf x order marks → AreRowsOf (end_changed swap_end x) order marks
      end_rows x order marks rows = record { few = rows.few; ordered = rows.ordered; marked = rows.marked; all = rows.all; ordering = rows.ordering; gone = rows.gone }
