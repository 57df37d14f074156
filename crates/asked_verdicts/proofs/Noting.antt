-- What is known of the results of a block is found with the search, instruction by instruction.
use Rattle.asked_verdicts.proofs.Common.{◌≡◌, ℕ, ◌+◌, List, [], ◌∷◌, ◌++◌, take, Some, sym, slice_get, get_or_from_slice_get, slice_get_within, Function, Inst, IsFormed, IsInst, HaveWidths, KnownBit, insts_of, known_operand, known_result, known_results, inst_has_widths, inst_there, results_more}

-- the instruction that is read next
module _ (f : Function) (b place : ℕ) (inst : Inst) (is : IsInst f b place inst) where
  at : slice_get (insts_of f b) place ≡ Some inst
  at = inst_there f b place inst is

  pub next_widths : IsFormed f → (results : List (List KnownBit)) → results ≡ known_results b (take place (insts_of f b)) → HaveWidths (known_operand b results) inst.width inst.op
  next_widths formed results so_far = rw so_far (inst_has_widths f formed b place place inst at)

  pub next_results : (results more : List (List KnownBit)) (bits : List KnownBit) → results ≡ known_results b (take place (insts_of f b)) → bits ≡ known_result (known_operand b results) inst.width inst.op → more ≡ results ++ bits ∷ []
      → more ≡ known_results b (take (place + 1) (insts_of f b))
  next_results results more bits so_far said pushed =
      results_more b (insts_of f b) place inst results more bits (slice_get_within (insts_of f b) place inst at) (sym (get_or_from_slice_get (insts_of f b) place inst inst at)) so_far said pushed
