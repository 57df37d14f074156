-- A rewritten function is the old one with all reads substituted and then the new instructions in the root's place.
use Rattle.substitution.proofs.Common.{◌≡◌, ◌≢◌, ℕ, zero, suc, ◌+◌, ◌<◌, ◌≤◌, ◌^◌, List, [], ◌∷◌, ◌++◌, length, take, drop, map, Option, None, Some, refl, sym, ap, subst, ◌∙◌, arith, get_or, All, slice_get, slice_set, option_map, option_and_then, IsSome, slice_get-map, slice_get-get_or, same_Some, IsBlock, IsInst, IsKnown, Read, read, IsRead, end_of, reads_of, reads_at_end, Function, Block, Inst, Op, Binary, Compare, Unary, Select, Convert, Freeze, Phi, Operand, Terminator, block_with, Rewrite, stands_for, rewritten_insts, rewritten_block, rewritten_blocks, HasRoom, OpHasRoom, EndHasRoom, BlockHasRoom, substituted_inst, substituted_end, substituted_block}
use Rattle.ir_core.specs.declared.operand.Operand.TheVariants as operands
use Rattle.ir_core.specs.declared.operand.Register.TheVariants as registers
use Rattle.ir_core.specs.declared.terminator.Terminator.TheVariants as terminators
use Rattle.substitution.proofs.Arriving.{inst_reads}
use Rattle.substitution.proofs.Assigning.{end_reads}
use Rattle.substitution.proofs.Placing.{insts_root, insts_other}

module _ (w : Rewrite) where
  abbrev Substituted : Inst → Inst
  Substituted inst = substituted_inst (stands_for w) inst

  abbrev SubstitutedBlock : Block → Block
  SubstitutedBlock block = substituted_block (stands_for w) block

  -- ---- instructions

  insts_elsewhere : (b k : ℕ) (insts : List Inst) → b ≢ w.block → rewritten_insts w b k insts ≡ map Substituted insts
  insts_elsewhere b k [] ne = refl
  insts_elsewhere b k (i ∷ insts) ne = insts_other w b k i insts (λ h. ne h.0) ∙ ap (λ l. Substituted i ∷ l) (insts_elsewhere b (suc k) insts ne)

  insts_behind : (b k : ℕ) (insts : List Inst) → w.place < k → rewritten_insts w b k insts ≡ map Substituted insts
  insts_behind b k [] lt = refl
  insts_behind b k (i ∷ insts) lt = insts_other w b k i insts (λ h. let e : k ≡ w.place = h.1 in omega arith) ∙ ap (λ l. Substituted i ∷ l) (insts_behind b (suc k) insts (omega arith))

  insts_at : (b k j : ℕ) (insts : List Inst) → b ≡ w.block → k + j ≡ w.place → j < length insts → rewritten_insts w b k insts ≡ take j (map Substituted insts) ++ w.put ++ drop (j + 1) (map Substituted insts)
  insts_at b k j [] same at lt = absurd (omega arith)
  insts_at b k zero (i ∷ insts) same at lt =
      let here : k ≡ w.place = omega arith in
      insts_root w b k i insts (same, here) ∙ ap (λ l. w.put ++ l) (insts_behind b (suc k) insts (omega arith))
  insts_at b k (suc j) (i ∷ insts) same at lt =
      let rest = insts_at b (suc k) j insts same (omega arith) (omega arith) in
      let next : j + 1 ≡ suc j = omega arith in
      let last : suc j + 1 ≡ suc (suc j) = omega arith in
      insts_other w b k i insts (λ h. let e : k ≡ w.place = h.1 in omega arith)
      ∙ ap (λ l. Substituted i ∷ l) (rest ∙ ap (λ n. take j (map Substituted insts) ++ w.put ++ drop n (map Substituted insts)) next)
      ∙ ap (λ n. take (suc j) (map Substituted (i ∷ insts)) ++ w.put ++ drop n (map Substituted (i ∷ insts))) (sym last)

  -- ---- blocks

  blocks_behind : (b : ℕ) (blocks : List Block) → w.block < b → rewritten_blocks w b blocks ≡ map SubstitutedBlock blocks
  blocks_behind b [] lt = refl
  blocks_behind b (block ∷ blocks) lt =
      let ne : b ≢ w.block = λ e. omega arith in
      ap (λ l. record { name = block.name; insts = l; end = substituted_end (stands_for w) block.end } ∷ rewritten_blocks w (suc b) blocks) (insts_elsewhere b 0 block.insts ne)
      ∙ ap (λ l. SubstitutedBlock block ∷ l) (blocks_behind (suc b) blocks (omega arith))

  pub blocks_at : (b j : ℕ) (blocks : List Block) (block : Block) → b + j ≡ w.block → slice_get blocks j ≡ Some block → w.place < length block.insts
      → slice_set (map SubstitutedBlock blocks) j (block_with w.place w.put (SubstitutedBlock block)) ≡ rewritten_blocks w b blocks
  blocks_at b j [] block at is lt = absurd cc
  blocks_at b zero (x ∷ blocks) block at is lt =
      let same : x ≡ block = same_Some x block is in
      let here : b ≡ w.block = omega arith in
      let inside : w.place < length x.insts = subst (λ (y : Block). w.place < length y.insts) (sym same) lt in
      ap (λ (y : Block). block_with w.place w.put (SubstitutedBlock y) ∷ map SubstitutedBlock blocks) (sym same)
      ∙ ap (λ l. record { name = x.name; insts = l; end = substituted_end (stands_for w) x.end } ∷ map SubstitutedBlock blocks) (sym (insts_at b 0 w.place x.insts here (omega arith) inside))
      ∙ ap (λ l. rewritten_block w b x ∷ l) (sym (blocks_behind (suc b) blocks (omega arith)))
  blocks_at b (suc j) (x ∷ blocks) block at is lt =
      let ne : b ≢ w.block = λ e. omega arith in
      ap (λ l. SubstitutedBlock x ∷ l) (blocks_at (suc b) j blocks block (omega arith) is lt)
      ∙ ap (λ l. record { name = x.name; insts = l; end = substituted_end (stands_for w) x.end } ∷ rewritten_blocks w (suc b) blocks) (sym (insts_elsewhere b 0 x.insts ne))

  -- ---- room

  module _ (f : Function) (known : (b k i : ℕ) (r : Read) → IsRead f b k i r → IsKnown f r.operand) (places : (block : Block) → IsBlock f w.block block → length block.insts + length w.put ≤ 2 ^ 32) where
    result_room : (b k : ℕ) (o : Option Block) → slice_get f.blocks b ≡ o → IsSome (option_and_then (λ (block : Block). option_map (λ (i : Inst). i.width) (slice_get block.insts k)) o) → b ≡ w.block → k + length w.put ≤ 2 ^ 32
    result_room b k None e h same = absurd cc
    result_room b k (Some block) e h same =
        let few : length block.insts + length w.put ≤ 2 ^ 32 = places block (ap (slice_get f.blocks) (sym same) ∙ e) in
        let lt : k < length block.insts = inside block.insts k h in
        omega arith
      where
        inside : (insts : List Inst) (k : ℕ) → IsSome (option_map (λ (i : Inst). i.width) (slice_get insts k)) → k < length insts
        inside [] k h = absurd cc
        inside (i ∷ insts) zero h = omega arith
        inside (i ∷ insts) (suc k) h = let lt : k < length insts = inside insts k h in omega arith

    operand_room : (a : Operand) → IsKnown f a → HasRoom w a
    operand_room (operands.Register (registers.Parameter p)) h = tt
    operand_room (operands.Register (registers.Result b k)) h = result_room b k (slice_get f.blocks b) refl h
    operand_room (operands.Number n) h = tt
    operand_room operands.Undef h = tt
    operand_room operands.Poison h = tt

    abbrev AreKnown : List Read → Type 0
    AreKnown reads = (i : ℕ) (r : Read) → slice_get reads i ≡ Some r → IsKnown f r.operand

    op_room : (b k width : ℕ) (op : Op) → AreKnown (reads_of f b k width op) → OpHasRoom w op
    op_room b k width (Binary op flags x y) h = (operand_room x (h 0 (read b k width x) refl), operand_room y (h 1 (read b k width y) refl))
    op_room b k width (Compare pred samesign compared x y) h = (operand_room x (h 0 (read b k compared x) refl), operand_room y (h 1 (read b k compared y) refl))
    op_room b k width (Select c x y) h = (operand_room c (h 0 (read b k 1 c) refl), operand_room x (h 1 (read b k width x) refl), operand_room y (h 2 (read b k width y) refl))
    op_room b k width (Convert cast flags from x) h = operand_room x (h 0 (read b k from x) refl)
    op_room b k width (Unary op truth x) h = operand_room x (h 0 (read b k width x) refl)
    op_room b k width (Freeze x) h = operand_room x (h 0 (read b k width x) refl)
    op_room b k width (Phi entries) h = λ i d lt.
        let of_entry : Operand × ℕ → Read = λ e. read e.1 (end_of f e.1) width e.0 in
        operand_room (get_or entries i d).0 (h i (of_entry (get_or entries i d)) (slice_get-map of_entry entries i ∙ ap (option_map of_entry) (slice_get-get_or entries i d lt)))

    end_room : (b k : ℕ) (end : Terminator) → AreKnown (reads_at_end f b k end) → EndHasRoom w end
    end_room b k (terminators.Return a) h = operand_room a (h 0 (read b k f.width a) refl)
    end_room b k (terminators.Jump to) h = tt
    end_room b k (terminators.Branch c to other) h = operand_room c (h 0 (read b k 1 c) refl)
    end_room b k (terminators.Switch a width other cases) h = operand_room a (h 0 (read b k width a) refl)
    end_room b k terminators.Unreachable h = tt

    inst_room : (b k : ℕ) (inst : Inst) → IsInst f b k inst → OpHasRoom w inst.op
    inst_room b k inst at = op_room b k inst.width inst.op (λ i r h. known b k i r (ap (λ l. slice_get l i) (inst_reads f b k inst at) ∙ h))

    pub blocks_have_room : All (BlockHasRoom w) f.blocks
    blocks_have_room b d lt =
        let block : Block = get_or f.blocks b d in
        let at : IsBlock f b block = slice_get-get_or f.blocks b d lt in
        record {
          insts = λ k i within. inst_room b k (get_or block.insts k i) (record { block = block; is_block = at; is_inst = slice_get-get_or block.insts k i within });
          end = end_room b (length block.insts) block.end (λ i r h. known b (length block.insts) i r (ap (λ l. slice_get l i) (end_reads f b block at) ∙ h));
        }
