-- The reads of a cleaned function have the forms of those of the old one.
use Rattle.ir_round_trip.proofs.Common.{◌≡◌, ℕ, ◌==◌, Bool, true, false, cond, List, [], ◌∷◌, length, Option, None, Some, refl, sym, ap, subst, ◌∙◌, map, slice_get, option_map, slice_get-map, Inst, Op, Operand, Terminator, IsBlock, IsInst, Read, read, IsRead, end_of, reads_of, reads_at_end, reads_by, reads_in, OperandFits, ReadHasForms, FunctionHasForms, KeptMarks, moved_operand, moved_op, moved_end, kept_function, KeepsNeeded, mapped, reads_at-inst, reads_at-end, each_none}
use Rattle.ir_core.specs.declared.function.Function.{Function}
use Rattle.ir_core.specs.declared.function.Block.{Block}
use Rattle.ir_core.specs.declared.instruction.Op.TheVariants.{Binary, Compare, Unary, Select, Convert, Freeze, Phi}
use Rattle.ir_core.specs.declared.operand.Operand.TheVariants as operands
use Rattle.ir_core.specs.declared.terminator.Terminator.TheVariants as terminators
use Rattle.ir_round_trip.proofs.Instructions.{block_of_old, IsOld, inst_of_old}

-- each of these reads has its form
abbrev HaveForms : List Read → Type 0
HaveForms reads = (i : ℕ) (r : Read) → slice_get reads i ≡ Some r → ReadHasForms r

-- a read without its place
abbrev what : Read → Operand × ℕ
what r = (r.operand, r.width)

module _ (kept : KeptMarks) where
  abbrev moved : Operand × ℕ → Operand × ℕ
  moved x = (moved_operand kept x.0, x.1)

  -- the new reads are the old ones with their registers renamed, at other places
  abbrev AreMoved : List Read → List Read → Type 0
  AreMoved old new = map what new ≡ map moved (map what old)

  operand_fits : (a : Operand) → OperandFits a → OperandFits (moved_operand kept a)
  operand_fits (operands.Register r) h = h
  operand_fits (operands.Number n) h = h
  operand_fits operands.Undef h = h
  operand_fits operands.Poison h = h

  moved_have_forms : (old new : List Read) → AreMoved old new → HaveForms old → HaveForms new
  moved_have_forms old new e forms i r at =
      let here : slice_get (map moved (map what old)) i ≡ Some (what r) = ap (λ l. slice_get l i) (sym e) ∙ slice_get-map what new i ∙ ap (option_map what) at in
      let (x, at_x, is_moved) = mapped moved (slice_get (map what old) i) (what r) (sym (slice_get-map moved (map what old) i) ∙ here) in
      let (s, at_s, is_what) = mapped what (slice_get old i) x (sym (slice_get-map what old i) ∙ at_x) in
      let form : ReadHasForms s = forms i s at_s in
      let so : moved (what s) ≡ what r = ap moved is_what ∙ is_moved in
      subst (λ (x : Operand × ℕ). ReadHasForms (read r.block r.place x.1 x.0)) so (record { width = form.width; operand = operand_fits s.operand form.operand })

  module _ (f g : Function) (b k c : ℕ) where
    entries_moved : (w : ℕ) (entries : List (Operand × ℕ)) →
        AreMoved (map (λ (e : Operand × ℕ). read e.1 (end_of f e.1) w e.0) entries) (map (λ (e : Operand × ℕ). read e.1 (end_of g e.1) w e.0) (map (λ (e : Operand × ℕ). (moved_operand kept e.0, e.1)) entries))
    entries_moved w [] = refl
    entries_moved w (e ∷ entries) = ap (λ rest. (moved_operand kept e.0, w) ∷ rest) (entries_moved w entries)

    op_moved : (w : ℕ) (op : Op) → AreMoved (reads_of f b k w op) (reads_of g b c w (moved_op kept op))
    op_moved w (Binary op flags x y) = refl
    op_moved w (Compare pred samesign compared x y) = refl
    op_moved w (Select z x y) = refl
    op_moved w (Convert cast flags from x) = refl
    op_moved w (Unary op truth x) = refl
    op_moved w (Freeze x) = refl
    op_moved w (Phi entries) = entries_moved w entries

    end_moved : g.width ≡ f.width → (t : Terminator) → AreMoved (reads_at_end f b k t) (reads_at_end g b c (moved_end kept t))
    end_moved same (terminators.Return a) = ap (λ w. (moved_operand kept a, w) ∷ []) same
    end_moved same (terminators.Jump to) = refl
    end_moved same (terminators.Branch z to other) = refl
    end_moved same (terminators.Switch a width other cases) = refl
    end_moved same terminators.Unreachable = refl

module _ (f : Function) (forms : FunctionHasForms f) (kept : KeptMarks) (needed : KeepsNeeded f kept) where
  abbrev cleaned : Function
  cleaned = kept_function kept f

  inst_reads : (b c : ℕ) (new : Inst) → IsInst cleaned b c new → HaveForms (reads_of cleaned b c new.width new.op)
  inst_reads b c new is =
      let old : IsOld f kept b new = inst_of_old f cleaned (kept, needed, refl) b c new is in
      let were : HaveForms (reads_of f b old.place old.inst.width old.inst.op) =
      λ i r at. forms.reads b old.place i r (ap (λ l. slice_get l i) (reads_at-inst f b old.place old.is_inst.block old.inst old.is_inst.is_block old.is_inst.is_inst) ∙ at) in
      subst (λ (x : Inst). HaveForms (reads_of cleaned b c x.width x.op)) old.moved
      (moved_have_forms kept (reads_of f b old.place old.inst.width old.inst.op) (reads_of cleaned b c old.inst.width (moved_op kept old.inst.op)) (op_moved kept f cleaned b old.place c old.inst.width old.inst.op) were)

  end_reads : (b c : ℕ) (new : Block) → IsBlock cleaned b new → HaveForms (reads_at_end cleaned b c new.end)
  end_reads b c new is =
      let (block, at, is_kept) = block_of_old f cleaned (kept, needed, refl) b new is in
      let k = length block.insts in
      let were : HaveForms (reads_at_end f b k block.end) = λ i r h. forms.reads b k i r (ap (λ l. slice_get l i) (reads_at-end f b block at) ∙ h) in
      subst (λ (x : Block). HaveForms (reads_at_end cleaned b c x.end)) is_kept
      (moved_have_forms kept (reads_at_end f b k block.end) (reads_at_end cleaned b c (moved_end kept block.end)) (end_moved kept f cleaned b k c refl block.end) were)

  block_reads : (b c : ℕ) (new : Block) → IsBlock cleaned b new → (o : Option Inst) → slice_get new.insts c ≡ o → HaveForms (reads_by cleaned b c new o)
  block_reads b c new is (Some inst) at = inst_reads b c inst (record { block = new; is_block = is; is_inst = at })
  block_reads b c new is None at = by (c == length new.insts)
    where
      by : (at_end : Bool) → HaveForms (cond at_end (reads_at_end cleaned b c new.end) [])
      by true = end_reads b c new is
      by false = each_none ReadHasForms

  reads_inside : (b c : ℕ) (o : Option Block) → slice_get cleaned.blocks b ≡ o → HaveForms (reads_in cleaned b c o)
  reads_inside b c None at = each_none ReadHasForms
  reads_inside b c (Some new) at = block_reads b c new at (slice_get new.insts c) refl

  pub kept_reads : (b c i : ℕ) (r : Read) → IsRead cleaned b c i r → ReadHasForms r
  kept_reads b c = reads_inside b c (slice_get cleaned.blocks b) refl
