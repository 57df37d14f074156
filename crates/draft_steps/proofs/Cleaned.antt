-- Where exactly the dead instructions were removed from a draft, its function is the cleaned one.
use Rattle.draft_steps.proofs.Common.{◌≡◌, ℕ, true, ◌↔◌, List, [], refl, sym, subst, Contains, slice_index_or, end_of, Function, Operand, IsCleaned, IsNeeded, by_end, by_inst, ReadsRegister, operands_at_end, IsEliminating}
use Rattle.ir_core.specs.declared.operand.Operand.TheVariants as operands
use Rattle.ir_core.specs.declared.operand.Register.TheVariants as registers
use Rattle.needed.specs.Operands.{operands_of}
use Rattle.draft_steps.proofs.Leaving.{ReadsStay, StaysIn, function_at, left_is, left_row, marks_of}
use Rattle.draft_steps.proofs.Living.{needed_alone}
use Rattle.draft_steps.proofs.Needing.{AreRows, keeps_needed, row_is}
use Rattle.draft_steps.proofs.WhoReads.{end_reads_it, inst_reads_it}
use Rattle.draft_steps.proofs.RowPlaces.{kept_in}

module _ (f : Function) (rows : List (List ℕ)) (g : Function) (left : List (List ℕ)) (good : AreRows f rows) (is : IsEliminating f rows g left []) where
  keeps : (b n : ℕ) → Contains (slice_index_or rows b []) n → (is.keep b n ≡ true) ↔ IsNeeded f (registers.Result b n)
  keeps b n has = (
    λ kept.
        let stands : Contains (slice_index_or left b []) n = subst (λ (l : List ℕ). Contains l n) (sym (left_row is.keep f rows g left is.is_left b)) (kept_in (is.keep b) (slice_index_or rows b []) n has kept) in
        is.was_needed (registers.Result b n) (needed_alone g (registers.Result b n) (is.waits b n stands)),
    λ need. is.keeps b n need,
  )

  operand_stays : (c k : ℕ) (a : Operand) → (((b n : ℕ) → a ≡ operands.Register (registers.Result b n) → ReadsRegister f c k (registers.Result b n) × IsNeeded f (registers.Result b n))) → StaysIn is.keep rows a
  operand_stays c k (operands.Register (registers.Result b n)) read = let (reads, need) = read b n refl in (good.read c k b n reads, is.keeps b n need)
  operand_stays c k (operands.Register (registers.Parameter p)) read = tt
  operand_stays c k (operands.Number n) read = tt
  operand_stays c k operands.Undef read = tt
  operand_stays c k operands.Poison read = tt

  stay : ReadsStay is.keep f rows
  stay = record {
    insts = λ b n block row i is_block at is_inst has kept a reads.
        let need : IsNeeded f (registers.Result b n) = (keeps b n (subst (λ (l : List ℕ). Contains l n) (sym (row_is rows b row at)) has)).0 kept in
        operand_stays b n a (λ c m same.
        let read : ReadsRegister f b n (registers.Result c m) = inst_reads_it f b n block i (registers.Result c m) is_block is_inst (subst (Contains (operands_of i.op)) same reads) in
        (read, by_inst b n need read));
    ends = λ b block is_block a reads. operand_stays b (end_of f b) a (λ c m same.
        let read : ReadsRegister f b (end_of f b) (registers.Result c m) = end_reads_it f b block (registers.Result c m) is_block (subst (Contains (operands_at_end block.end)) same reads) in
        (read, by_end b read));
  }

  pub cleaned_is : IsCleaned (function_at f rows) (function_at g left)
  cleaned_is = (marks_of is.keep rows, keeps_needed f rows good is.keep keeps, left_is is.keep f rows g left is.is_left good.numbers stay)
