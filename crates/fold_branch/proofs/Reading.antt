-- What the folded function reads, the old one reads, in a block that is reached.
use Rattle.fold_branch.proofs.Common.{◌≡◌, ℕ, zero, suc, ◌==◌, Bool, true, false, cond, List, [], ◌∷◌, length, map, Option, None, Some, Contains, refl, sym, ap, subst, ◌∙◌, option_map, slice_get, slice_index_or, unwrap_or, eqb-true, length-map, slice_get-map, same_Some, IsBlock, IsPhi, Read, read, IsRead, end_of, reads_of, reads_at_end, reads_by, reads_in, Block, Function, Inst, Op, Binary, Compare, Unary, Select, Convert, Freeze, Phi, Operand, Terminator, contains_at, place_in, mapped, own_place, reads_at-inst, reads_at-end, decided_end, staying, folded_op, folded_inst, folded_as, folded_block, choices_of, IsMarked}
use Rattle.ir_core.specs.declared.operand.Operand.TheVariants as operands
use Rattle.ir_core.specs.declared.terminator.Terminator.TheVariants as terminators
use Rattle.fold_branch.proofs.FoldedBlocks.{folded, get-block}
use Rattle.fold_branch.proofs.Staying.{staying_among, staying_reached}

one_block : (b k w : ℕ) (a : Operand) (i : ℕ) (x : Read) → slice_get (read b k w a ∷ []) i ≡ Some x → x.block ≡ b
one_block b k w a zero x h = ap (λ (y : Read). y.block) (sym (same_Some (read b k w a) x h))
one_block b k w a (suc i) x h = absurd cc

module _ (f : Function) (reached : List Bool) where
  abbrev g : Function
  g = folded f reached

  abbrev choices : List (Option ℕ)
  choices = choices_of f

  -- ---- phis

  pub end_on : (c : ℕ) → IsMarked reached c → end_of g c ≡ end_of f c
  end_on c mark = ap (λ (o : Option Block). unwrap_or (option_map (λ (x : Block). length x.insts) o) 0) (get-block f reached c) ∙ by (slice_get f.blocks c)
    where
      by : (o : Option Block) → unwrap_or (option_map (λ (x : Block). length x.insts) (option_map (folded_block choices reached c) o)) 0 ≡ unwrap_or (option_map (λ (x : Block). length x.insts) o) 0
      by None = refl
      by (Some block) = ap (λ m. length (folded_as choices reached c m block).insts) mark ∙ length-map block.insts (folded_inst choices reached c)

  -- what an entry of a phi reads in this function
  abbrev entry_read : Function → ℕ → Operand × ℕ → Read
  entry_read h w e = read e.1 (end_of h e.1) w e.0

  entry_reads : (b w i : ℕ) (entries : List (Operand × ℕ)) (x : Read) → slice_get (map (entry_read g w) (staying choices reached b [] entries)) i ≡ Some x
      → (j : ℕ) × (slice_get (map (entry_read f w) entries) j ≡ Some x) × IsMarked reached x.block
  entry_reads b w i entries x h =
      let e : (e : Operand × ℕ) × (slice_get (staying choices reached b [] entries) i ≡ Some e) × (entry_read g w e ≡ x) =
      mapped (entry_read g w) (slice_get (staying choices reached b [] entries) i) x (sym (slice_get-map (entry_read g w) (staying choices reached b [] entries) i) ∙ h) in
      let stays : Contains (staying choices reached b [] entries) e.0 = contains_at (staying choices reached b [] entries) i e.0 e.1 in
      let mark : IsMarked reached e.0.1 = (staying_reached choices reached b [] entries e.0 stays).0 in
      let at : (j : ℕ) × (slice_get entries j ≡ Some e.0) = place_in entries e.0 (staying_among choices reached b [] entries e.0 stays) in
      (at.0, entry_was w entries at.0 e.0 x at.1 mark e.2, subst (IsMarked reached) (ap (λ (y : Read). y.block) e.2) mark)
    where
      entry_was : (w : ℕ) (entries : List (Operand × ℕ)) (j : ℕ) (e : Operand × ℕ) (x : Read) → slice_get entries j ≡ Some e → IsMarked reached e.1 → entry_read g w e ≡ x → slice_get (map (entry_read f w) entries) j ≡ Some x
      entry_was w entries j e x at mark is =
          let same : entry_read f w e ≡ x = ap (λ n. read e.1 n w e.0) (sym (end_on e.1 mark)) ∙ is in
          slice_get-map (entry_read f w) entries j ∙ ap (option_map (entry_read f w)) at ∙ ap (λ (y : Read). Some y) same

  -- ---- instructions

  own_reads : (b k w i : ℕ) (op : Op) (x : Read) → IsMarked reached b → ¬ IsPhi op → slice_get (reads_of f b k w op) i ≡ Some x → (j : ℕ) × (slice_get (reads_of f b k w op) j ≡ Some x) × IsMarked reached x.block
  own_reads b k w i op x mark other h = (i, h, subst (IsMarked reached) (sym (own_place f b k w op other i x h).0) mark)

  op_reads : (b k w i : ℕ) (op : Op) (x : Read) → IsMarked reached b → slice_get (reads_of g b k w (folded_op choices reached b op)) i ≡ Some x
      → (j : ℕ) × (slice_get (reads_of f b k w op) j ≡ Some x) × IsMarked reached x.block
  op_reads b k w i (Phi entries) x mark h = entry_reads b w i entries x h
  op_reads b k w i (Binary op flags y z) x mark h = own_reads b k w i (Binary op flags y z) x mark (λ p. p) h
  op_reads b k w i (Compare pred samesign compared y z) x mark h = own_reads b k w i (Compare pred samesign compared y z) x mark (λ p. p) h
  op_reads b k w i (Unary op truth y) x mark h = own_reads b k w i (Unary op truth y) x mark (λ p. p) h
  op_reads b k w i (Select c y z) x mark h = own_reads b k w i (Select c y z) x mark (λ p. p) h
  op_reads b k w i (Convert cast flags from y) x mark h = own_reads b k w i (Convert cast flags from y) x mark (λ p. p) h
  op_reads b k w i (Freeze y) x mark h = own_reads b k w i (Freeze y) x mark (λ p. p) h

  -- ---- terminators

  end_reads : (b k i : ℕ) (t : Terminator) (x : Read) → slice_get (reads_at_end g b k (decided_end t)) i ≡ Some x → (slice_get (reads_at_end f b k t) i ≡ Some x) × (x.block ≡ b)
  end_reads b k i (terminators.Return a) x h = (h, one_block b k f.width a i x h)
  end_reads b k i (terminators.Jump to) x h = absurd cc
  end_reads b k i (terminators.Branch (operands.Register r) to other) x h = (h, one_block b k 1 (operands.Register r) i x h)
  end_reads b k i (terminators.Branch (operands.Number n) to other) x h = absurd cc
  end_reads b k i (terminators.Branch operands.Undef to other) x h = (h, one_block b k 1 operands.Undef i x h)
  end_reads b k i (terminators.Branch operands.Poison to other) x h = (h, one_block b k 1 operands.Poison i x h)
  end_reads b k i (terminators.Switch (operands.Register r) width other cases) x h = (h, one_block b k width (operands.Register r) i x h)
  end_reads b k i (terminators.Switch (operands.Number n) width other cases) x h = absurd cc
  end_reads b k i (terminators.Switch operands.Undef width other cases) x h = (h, one_block b k width operands.Undef i x h)
  end_reads b k i (terminators.Switch operands.Poison width other cases) x h = (h, one_block b k width operands.Poison i x h)
  end_reads b k i terminators.Unreachable x h = absurd cc

  -- ---- a place

  abbrev pub ReadBack : ℕ → ℕ → Read → Type 0
  ReadBack b k x = (j : ℕ) × IsRead f b k j x × IsMarked reached x.block

  nothing_read : (t : Bool) (i : ℕ) (x : Read) → slice_get (cond t [] []) i ≡ Some x → ⊥
  nothing_read true i x h = absurd cc
  nothing_read false i x h = absurd cc

  place_reads : (b k i : ℕ) (block : Block) (x : Read) → IsBlock f b block → IsMarked reached b → (o : Option Inst) → slice_get block.insts k ≡ o
      → slice_get (reads_by g b k (folded_as choices reached b true block) (option_map (folded_inst choices reached b) o)) i ≡ Some x → ReadBack b k x
  place_reads b k i block x at mark (Some inst) here h =
      let was : (j : ℕ) × (slice_get (reads_of f b k inst.width inst.op) j ≡ Some x) × IsMarked reached x.block = op_reads b k inst.width i inst.op x mark h in
      (was.0, ap (λ l. slice_get l was.0) (reads_at-inst f b k block inst at here) ∙ was.1, was.2)
  place_reads b k i block x at mark None here h = by (k == length (map (folded_inst choices reached b) block.insts)) refl h
    where
      by : (t : Bool) → (k == length (map (folded_inst choices reached b) block.insts)) ≡ t → slice_get (cond t (reads_at_end g b k (decided_end block.end)) []) i ≡ Some x → ReadBack b k x
      by true is h =
          let last : k ≡ length block.insts = eqb-true k (length (map (folded_inst choices reached b) block.insts)) is ∙ length-map block.insts (folded_inst choices reached b) in
          let was : (slice_get (reads_at_end f b k block.end) i ≡ Some x) × (x.block ≡ b) = end_reads b k i block.end x h in
          let at_end : IsRead f b (length block.insts) i x = ap (λ l. slice_get l i) (reads_at-end f b block at) ∙ subst (λ n. slice_get (reads_at_end f b n block.end) i ≡ Some x) last was.0 in
          (i, subst (λ n. IsRead f b n i x) (sym last) at_end, subst (IsMarked reached) (sym was.1) mark)
      by false is h = absurd cc

  block_reads : (b k i : ℕ) (block : Block) (x : Read) → IsBlock f b block → (mark : Bool) → slice_index_or reached b false ≡ mark
      → slice_get (reads_in g b k (Some (folded_as choices reached b mark block))) i ≡ Some x → ReadBack b k x
  block_reads b k i block x at true mark h =
      place_reads b k i block x at mark (slice_get block.insts k) refl
      (ap (λ o. slice_get (reads_by g b k (folded_as choices reached b true block) o) i) (sym (slice_get-map (folded_inst choices reached b) block.insts k)) ∙ h)
  block_reads b k i block x at false mark h = absurd (nothing_read (k == 0) i x h)

  pub read_back : (b k i : ℕ) (x : Read) → IsRead g b k i x → ReadBack b k x
  read_back b k i x h = by (slice_get f.blocks b) refl (ap (λ o. slice_get (reads_in g b k o) i) (sym (get-block f reached b)) ∙ h)
    where
      by : (o : Option Block) → slice_get f.blocks b ≡ o → slice_get (reads_in g b k (option_map (folded_block choices reached b) o)) i ≡ Some x → ReadBack b k x
      by None is h = absurd cc
      by (Some block) is h = block_reads b k i block x is (slice_index_or reached b false) refl h
