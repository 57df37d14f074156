-- In a cleaned function every result is live: none is left to remove.
use Rattle.strategy.proofs.Common.{◌≡◌, ℕ, ◌+◌, true, List, [], ◌∷◌, map, Some, refl, sym, ap, subst, ◌∙◌, arith, Contains, slice_get, HasInst, IsBlock, IsKnown, MeetsChecks, end_of, Block, Function, Inst, Op, Binary, Compare, Unary, Select, Convert, Freeze, Phi, Operand, Register, Terminator, IsCleaned, KeepsNeeded, KeptMarks, kept_before, kept_block, kept_function, kept_insts, moved_end, moved_inst, moved_op, moved_operand, moved_register, IsNeeded, by_end, by_inst, ReadsRegister, operands_at_end, operands_of, IsKept, block_at, block_back, kept_at, kept_back, has_inst, end_reads, inst_reads, Contains-map, AllNeeded, Draft, IsSettled, function_of, numbers_of, inst_there, known_has, read_in_block, reads_written, written, written_reads}
use Rattle.ir_core.specs.declared.operand.Operand.TheVariants as operands
use Rattle.ir_core.specs.declared.operand.Register.TheVariants as registers
use Rattle.ir_core.specs.declared.terminator.Terminator.TheVariants as terminators
use Rattle.draft_steps.specs.DeadCode.{HasNoDeadCode}
use Rattle.draft_steps.proofs.Needing.{keeps_needed}
use Rattle.draft_steps.proofs.WholeRows.{settled_rows}

entries_moved : (kept : KeptMarks) (entries : List (Operand × ℕ)) → map (λ (e : Operand × ℕ). e.0) (map (λ (e : Operand × ℕ). (moved_operand kept e.0, e.1)) entries) ≡ map (moved_operand kept) (map (λ (e : Operand × ℕ). e.0) entries)
entries_moved kept [] = refl
entries_moved kept (e ∷ entries) = ap (λ (l : List Operand). moved_operand kept e.0 ∷ l) (entries_moved kept entries)

operands_moved : (kept : KeptMarks) (op : Op) → operands_of (moved_op kept op) ≡ map (moved_operand kept) (operands_of op)
operands_moved kept (Binary op flags x y) = refl
operands_moved kept (Compare pred samesign compared x y) = refl
operands_moved kept (Unary op truth x) = refl
operands_moved kept (Select c x y) = refl
operands_moved kept (Convert cast flags from x) = refl
operands_moved kept (Freeze x) = refl
operands_moved kept (Phi entries) = entries_moved kept entries

end_operands_moved : (kept : KeptMarks) (t : Terminator) → operands_at_end (moved_end kept t) ≡ map (moved_operand kept) (operands_at_end t)
end_operands_moved kept (terminators.Return a) = refl
end_operands_moved kept (terminators.Jump to) = refl
end_operands_moved kept (terminators.Branch c to other) = refl
end_operands_moved kept (terminators.Switch a width other cases) = refl
end_operands_moved kept terminators.Unreachable = refl

module _ (f : Function) (checks : MeetsChecks f) (kept : KeptMarks) (needed : KeepsNeeded f kept) where
  abbrev new : Function
  new = kept_function kept f

  -- what read a register reads it at its new place
  read_moved : (b k c : ℕ) (was is : List Operand) (r : Register) → written f b k ≡ was → written new b c ≡ is → is ≡ map (moved_operand kept) was
      → ReadsRegister f b k r → ReadsRegister new b c (moved_register kept r)
  read_moved b k c was is r written_was written_is moved reads =
      let there : Contains was (operands.Register r) = subst (λ (l : List Operand). Contains l (operands.Register r)) written_was (reads_written f b k r reads) in
      written_reads new b c (moved_register kept r)
      (subst (λ (l : List Operand). Contains l (operands.Register (moved_register kept r))) (sym (written_is ∙ moved)) (Contains-map (moved_operand kept) was (operands.Register r) there))

  end_moved : (b : ℕ) (r : Register) → ReadsRegister f b (end_of f b) r → ReadsRegister new b (end_of new b) (moved_register kept r)
  end_moved b r reads =
      let (block, at) = read_in_block f b (end_of f b) reads.operand reads.read reads.is_read in
      read_moved b (end_of f b) (end_of new b) (operands_at_end block.end) (operands_at_end (moved_end kept block.end)) r
      (end_reads f b block at) (end_reads new b (kept_block kept b block) (block_at kept f b block at)) (end_operands_moved kept block.end) reads

  inst_moved : (b k : ℕ) (r : Register) → HasInst f b k → kept b k ≡ true → ReadsRegister f b k r → ReadsRegister new b (kept_before kept b k) (moved_register kept r)
  inst_moved b k r has keep reads =
      let (block, inst, at, here) = inst_there f b k has in
      let same : k ≡ 0 + k = omega arith in
      let there : slice_get (kept_insts kept b 0 block.insts) (kept_before kept b k) ≡ Some (moved_inst kept inst) =
      kept_at kept b 0 block.insts k (kept_before kept b k) inst here (ap (kept b) (sym same) ∙ keep) (omega (arith, ap (kept_before kept b) same)) in
      read_moved b k (kept_before kept b k) (operands_of inst.op) (operands_of (moved_op kept inst.op)) r
      (inst_reads f b k block inst at here) (inst_reads new b (kept_before kept b k) (kept_block kept b block) (moved_inst kept inst) (block_at kept f b block at) there) (operands_moved kept inst.op) reads

  read_has : (c l b k : ℕ) → ReadsRegister f c l (registers.Result b k) → HasInst f b k
  read_has c l b k reads = known_has f b k (subst (IsKnown f) reads.reads (checks.formed.registers c l reads.operand reads.read reads.is_read))

  needed_has : (b k : ℕ) (r : Register) → r ≡ registers.Result b k → IsNeeded f r → HasInst f b k
  needed_has b k r is (by_end c reads) = read_has c (end_of f c) b k (subst (ReadsRegister f c (end_of f c)) is reads)
  needed_has b k r is (by_inst c l need reads) = read_has c l b k (subst (ReadsRegister f c l) is reads)

  still_needed : (r : Register) → IsNeeded f r → IsNeeded new (moved_register kept r)
  still_needed r (by_end b reads) = by_end b (end_moved b r reads)
  still_needed r (by_inst b k need reads) =
      let has : HasInst f b k = needed_has b k (registers.Result b k) refl need in
      by_inst b (kept_before kept b k) (still_needed (registers.Result b k) need) (inst_moved b k r has ((needed b k has).1 need) reads)

  left_needed : (b c : ℕ) (block : Block) (inst : Inst) → IsBlock f b block → slice_get (kept_insts kept b 0 block.insts) c ≡ Some inst → IsNeeded new (registers.Result b c)
  left_needed b c block inst at here =
      let was : IsKept kept b 0 block.insts c inst = kept_back kept b 0 block.insts c inst here in
      let same : 0 + was.place ≡ was.place = omega arith in
      let has : HasInst f b was.place = has_inst f b was.place block was.inst at was.at in
      let need : IsNeeded f (registers.Result b was.place) = (needed b was.place has).0 (ap (kept b) (sym same) ∙ was.keep) in
      let place : kept_before kept b was.place ≡ c = omega (arith, was.count, ap (kept_before kept b) same) in
      subst (λ (n : ℕ). IsNeeded new (registers.Result b n)) place (still_needed (registers.Result b was.place) need)

  kept_needed : AllNeeded new
  kept_needed b c has =
      let (left, inst, at, here) = inst_there new b c has in
      let (block, is_block, is) = block_back kept f b left at in
      left_needed b c block inst is_block (subst (λ (x : Block). slice_get x.insts c ≡ Some inst) (sym is) here)

pub cleaned_needed : (f g : Function) → MeetsChecks f → IsCleaned f g → AllNeeded g
cleaned_needed f g checks cleaned = subst AllNeeded (sym cleaned.2) (kept_needed f checks cleaned.0 cleaned.1)

-- what is live in the arena of a draft is live in its function
pub drafted_needed : (d : Draft) → IsSettled d → HasNoDeadCode d → AllNeeded (function_of d)
drafted_needed d settled clean b k has =
    (keeps_needed d.arena (numbers_of d) (settled_rows d settled) (λ (c n : ℕ). true) (λ c n stands. (λ kept. clean c n stands, λ need. refl)) b k has).0 refl
