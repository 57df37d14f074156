-- What is kept for the numbers of an arena is what is known at the positions of the function, up to a position before
-- which all that stand are right.
use Rattle.draft_bits.proofs.Common.{◌≡◌, ℕ, zero, suc, ◌<◌, ◌≤◌, List, length, take, Some, refl, sym, ap, subst, ◌∙◌, arith, inl, inr, eq-eqb, ne_eqb, Contains, slice_get, unwrap_or, cases_eq, cases_lt, slice_get_within, take_all, Function, Inst, Operand, IsInst, Read, MeetsChecks, IsReached, some_at, reads_at_inst, KnownBit, insts_of, known_at, known_operand, known_result, known_results, known_of, unknown, result_at, inst_there, ReadsStandBefore, known_in, HaveWidths, inst_has_widths, substituted_inst, substituted_op, substituted_operand, arena_of, function_of, numbers_of, placed, AreArranged, arranged, row_of, is_arranged, inst_on, reads_up, IsRight, facts_at, results_at, DraftBitsAreKnownBits}
use Rattle.ir_core.specs.declared.operand.Operand.TheVariants as operands
use Rattle.ir_core.specs.declared.operand.Register.TheVariants as registers
use Rattle.places.specs.Orders.{place_in}
use Rattle.draft_bits.proofs.Renaming.{ReadsAlike, Renames, result_renamed, widths_renamed}

placed_renames : (rows : List (List ℕ)) → Renames (placed rows)
placed_renames rows (registers.Parameter p) = (registers.Parameter p, refl)
placed_renames rows (registers.Result b n) = (registers.Result b (place_in (row_of rows b) n), refl)

-- what is known of the result of instruction j doesn't depend on how many instructions behind it are gone through
pub same_front : (f : Function) (b j k : ℕ) (inst : Inst) → IsInst f b j inst → j < k → slice_get (known_results b (take k (insts_of f b))) j ≡ slice_get (known_results b (insts_of f b)) j
same_front f b j k inst is before =
    let insts = insts_of f b in
    let at : slice_get insts j ≡ Some inst = inst_there f b j inst is in
    let whole : take (length insts) insts ≡ insts = take_all (length insts) insts (omega arith) in
    result_at b insts j k inst at before ∙ sym (subst (λ l. slice_get (known_results b l) j ≡ Some (known_result (known_operand b (known_results b (take j insts))) inst.width inst.op)) whole (result_at b insts j (length insts) inst at (slice_get_within insts j inst at)))

module _ (reads_before : ReadsStandBefore) (arena : Function) (rows : List (List ℕ)) (are : AreArranged arena rows) (checks : MeetsChecks (arranged arena rows))
    (b : ℕ) (reached : IsReached arena b) (results : List (List KnownBit))
    (limit : ℕ) (right : (n : ℕ) (inst : Inst) → Contains (row_of rows b) n → place_in (row_of rows b) n < limit → IsInst arena b n inst → IsRight b results n inst) where
  abbrev F : Function
  F = arranged arena rows

  abbrev row : List ℕ
  row = row_of rows b

  abbrev all : List (List KnownBit)
  all = known_results b (insts_of F b)

  -- an instruction that stands
  inst_of : (n : ℕ) → Contains row n → (inst : Inst) × IsInst arena b n inst
  inst_of n has =
      let (block, is_block, within) = are.there b n has in
      let (inst, at) = some_at block.insts n within in
      (inst, record { block = block; is_block = is_block; is_inst = at })

  -- up to a position, the same is kept and known
  abbrev SameTo : ℕ → Type 0
  SameTo k = (m : ℕ) → Contains row m → place_in row m < k → slice_get results m ≡ slice_get all (place_in row m)

  operand_alike : (k N : ℕ) → SameTo k → (x : Operand) → ((m : ℕ) → x ≡ operands.Register (registers.Result b m) → Contains row m × (place_in row m < k)) → known_operand b results N x ≡ known_at F b k N (substituted_operand (placed rows) x)
  operand_alike k N same (operands.Number n) before = refl
  operand_alike k N same operands.Undef before = refl
  operand_alike k N same operands.Poison before = refl
  operand_alike k N same (operands.Register (registers.Parameter p)) before = refl
  operand_alike k N same (operands.Register (registers.Result c m)) before = elim (cases_eq c b) [
    | inr other ↦ rw (ne_eqb c b other) refl
    | inl here ↦
        let (has, less) = before m (ap (λ (d : ℕ). operands.Register (registers.Result d m)) here) in
        let (inst, is) = inst_of m has in
        let front = same_front F b (place_in row m) k (substituted_inst (placed rows) inst) (inst_on arena rows are b m inst has is) less in
        let entry : slice_get results m ≡ slice_get (known_results b (take k (insts_of F b))) (place_in row m) = same m has less ∙ sym front in
        rw (here, eq-eqb b b refl) (ap (λ o. unwrap_or o (unknown N)) entry)
  ]

  -- at a position up to which the same is known, so it is of what the instruction reads
  alike_at : (n : ℕ) (inst : Inst) → Contains row n → IsInst arena b n inst → SameTo (place_in row n)
      → ReadsAlike (known_operand b results) (known_at F b (place_in row n)) (placed rows) (placed_renames rows) arena b n inst.width inst.op
  alike_at n inst has is same no_phi i r read =
      operand_alike (place_in row n) r.width same r.operand (λ m reads. reads_up arena rows are reads_before checks b n m i inst r reached no_phi has is (ap (λ (l : List Read). slice_get l i) (reads_at_inst arena b n inst is) ∙ read) reads)

  same_next : (k : ℕ) → k < limit → SameTo k → (n : ℕ) → Contains row n → place_in row n ≡ k → slice_get results n ≡ slice_get all (place_in row n)
  same_next k within same n has place =
      let (inst, is) = inst_of n has in
      let there : IsInst F b (place_in row n) (substituted_inst (placed rows) inst) = inst_on arena rows are b n inst has is in
      let insts = insts_of F b in
      let at : slice_get insts (place_in row n) ≡ Some (substituted_inst (placed rows) inst) = inst_there F b (place_in row n) (substituted_inst (placed rows) inst) there in
      let next : slice_get (known_results b (take (suc (place_in row n)) insts)) (place_in row n) ≡ Some (known_result (known_at F b (place_in row n)) inst.width (substituted_op (placed rows) inst.op)) =
      result_at b insts (place_in row n) (suc (place_in row n)) (substituted_inst (placed rows) inst) at (omega arith) in
      let front = same_front F b (place_in row n) (suc (place_in row n)) (substituted_inst (placed rows) inst) there (omega arith) in
      let alike : known_result (known_operand b results) inst.width inst.op ≡ known_result (known_at F b (place_in row n)) inst.width (substituted_op (placed rows) inst.op) =
      result_renamed (known_operand b results) (known_at F b (place_in row n)) (placed rows) (placed_renames rows) arena b n inst.width inst.op (alike_at n inst has is (λ m has_m less. same m has_m (omega (arith, less, place)))) in
      right n inst has (omega (arith, place, within)) is ∙ ap Some alike ∙ sym next ∙ front

  same_to : (k : ℕ) → k ≤ limit → SameTo k
  same_to zero within m has less = absurd (omega arith)
  same_to (suc k) within m has less = elim (cases_lt (place_in row m) k) [
    | inl earlier ↦ same_to k (omega (arith, within)) m has earlier
    | inr last ↦ same_next k (omega (arith, within)) (same_to k (omega (arith, within))) m has (omega arith)
  ]

  pub knows : (n : ℕ) → place_in row n ≤ limit → (x : Operand) → ((m : ℕ) → x ≡ operands.Register (registers.Result b m) → Contains row m × (place_in row m < place_in row n))
      → known_of (known_operand b results 0 x) ≡ known_in F b (place_in row n) (substituted_operand (placed rows) x)
  knows n within x before = ap known_of (operand_alike (place_in row n) 0 (same_to (place_in row n) within) x before)

  -- the words that an instruction's result is found from have the widths of its operands
  pub have_widths : (n : ℕ) (inst : Inst) → Contains row n → IsInst arena b n inst → place_in row n ≤ limit → HaveWidths (known_operand b results) inst.width inst.op
  have_widths n inst has is within =
      let there : IsInst F b (place_in row n) (substituted_inst (placed rows) inst) = inst_on arena rows are b n inst has is in
      let at : slice_get (insts_of F b) (place_in row n) ≡ Some (substituted_inst (placed rows) inst) = inst_there F b (place_in row n) (substituted_inst (placed rows) inst) there in
      widths_renamed (known_operand b results) (known_at F b (place_in row n)) (placed rows) (placed_renames rows) arena b n inst.width inst.op (alike_at n inst has is (same_to (place_in row n) within))
      (inst_has_widths F checks.formed b (place_in row n) (place_in row n) (substituted_inst (placed rows) inst) at)

pub bits_are_known : ReadsStandBefore → DraftBitsAreKnownBits
bits_are_known reads_before d bits b n settled checks are_bits reached stands x before =
    let arranged_here = is_arranged d settled in
    let (block_of, is_block, within) = arranged_here.there b n stands in
    let block : (facts_at bits b).block ≡ b = are_bits.blocks b (slice_get_within d.arena.blocks b block_of is_block) in
    subst (λ (k : ℕ). known_of (known_operand k (results_at bits b) 0 x) ≡ known_in (function_of d) b (place_in (row_of (numbers_of d) b) n) (substituted_operand (placed (numbers_of d)) x)) (sym block)
    (knows reads_before (arena_of d) (numbers_of d) arranged_here checks b reached (results_at bits b) (place_in (row_of (numbers_of d) b) n) (λ m inst has less is. are_bits.right b m inst (reached, has) is) n (omega arith) x before)
