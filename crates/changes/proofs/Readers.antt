-- The instructions that read the root, and their new places.
use Rattle.changes.proofs.Common.{◌≡◌, ℕ, ◌<◌, ◌^◌, true, List, length, Some, sym, subst, ◌∙◌, arith, slice_get, Contains, same_Some, slice_get_within, HasInst, IsInst, Block, Function, Inst, Operand, Register, operands_of, operands_at, operands_at_inst, none, Place, root_of, moved_place, Rewrite, IsTheRoot, moved_below, rewritten_moves, IsPutFor, ReadsRoot, Put}
use Rattle.ir_core.specs.declared.operand.Operand.TheVariants as operands
use Rattle.ir_core.specs.declared.operand.Register.TheVariants as registers
use Rattle.changes.proofs.Few.{AreFew, block_few}
use Rattle.changes.proofs.Rewritten.{inst_of, root_moves, other_moves}

module _ (w : Rewrite) where
  -- each is given one place, and they are in order
  pub one_place : (f : Function) (b k l m : ℕ) → ReadsRoot f w b k l → ReadsRoot f w b k m → l ≡ m
  one_place f b k l m x y = same_Some l m (sym x.3 ∙ y.3)

  other_than_root : (b k l : ℕ) → rewritten_moves w true b k ≡ Some l → ¬ IsTheRoot w b k
  other_than_root b k l m here = let gone = root_moves w true b k here in cc

  place_is : (b k l : ℕ) → rewritten_moves w true b k ≡ Some l → moved_place w b k ≡ l
  place_is b k l m = same_Some (moved_place w b k) l (sym (other_moves w true b k (other_than_root b k l m)) ∙ m)

  pub in_order : (f : Function) (b j k l m : ℕ) → j < k → ReadsRoot f w b j l → ReadsRoot f w b k m → l < m
  in_order f b j k l m less x y =
      let below : moved_place w b j < moved_place w b k = moved_below w b j k less (other_than_root b j l x.3) in
      let first : moved_place w b j ≡ l = place_is b j l x.3 in
      let second : moved_place w b k ≡ m = place_is b k m y.3 in
      by l m (moved_place w b j) (moved_place w b k) below first second
    where
      by : (l m p q : ℕ) → p < q → p ≡ l → q ≡ m → l < m
      by l m p q lt e g = omega arith

  module _ (put : Put) (p : IsPutFor w put) where
    -- ---- new places

    -- ---- what reads the root

    abbrev at_place : ℕ → ℕ → Place
    at_place b k = record { block = b; number = k }

    root_is : operands.Register (registers.Result put.block put.place) ≡ operands.Register (root_of w)
    root_is = let block = p.block in let place = p.place in cc

    reads_as : (f : Function) (b k : ℕ) (inst : Inst) → AreFew f → IsInst f b k inst → operands_at f (at_place b k) ≡ operands_of inst.op
    reads_as f b k inst few at =
        let size : length at.block.insts < 2 ^ 32 = block_few f b at.block at.is_block few in
        operands_at_inst f (at_place b k) at.block inst at.is_block at.is_inst (within at.block size at.is_inst)
      where
        within : (block : Block) → length block.insts < 2 ^ 32 → slice_get block.insts k ≡ Some inst → k < none
        within block size there = let less = slice_get_within block.insts k inst there in omega arith

    pub reader_is : (f : Function) (b k l : ℕ) → AreFew f → HasInst f b k → Contains (operands_at f (at_place b k)) (operands.Register (registers.Result put.block put.place)) → rewritten_moves w true b k ≡ Some l → ReadsRoot f w b k l
    reader_is f b k l few has reads m =
        let x = inst_of f b k has in
        let there : Contains (operands_at f (at_place b k)) (operands.Register (root_of w)) = subst (λ (a : Operand). Contains (operands_at f (at_place b k)) a) root_is reads in
        (x.0, x.1, subst (λ (l : List Operand). Contains l (operands.Register (root_of w))) (reads_as f b k x.0 few x.1) there, m)

    pub is_reader : (f : Function) (b k l : ℕ) → AreFew f → ReadsRoot f w b k l → Contains (operands_at f (at_place b k)) (operands.Register (registers.Result put.block put.place))
    is_reader f b k l few (inst, at, reads, m) =
        subst (λ (a : Operand). Contains (operands_at f (at_place b k)) a) (sym root_is)
        (subst (λ (l : List Operand). Contains l (operands.Register (root_of w))) (sym (reads_as f b k inst few at)) reads)
