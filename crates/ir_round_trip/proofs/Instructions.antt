-- The blocks of a cleaned function are those of the old one, each with some of its instructions.
use Rattle.ir_round_trip.proofs.Common.{◌≡◌, ℕ, ◌+◌, true, Some, sym, ap, subst, ◌∙◌, arith, slice_get, Inst, IsBlock, IsInst, KeptMarks, moved_inst, kept_block, IsCleaned, IsKept, kept_back, block_back}
use Rattle.ir_core.specs.declared.function.Function.{Function}
use Rattle.ir_core.specs.declared.function.Block.{Block}

-- block b of a cleaned function is the old one with its kept instructions alone
pub block_of_old : (f g : Function) (c : IsCleaned f g) (b : ℕ) (new : Block) → IsBlock g b new → (block : Block) × IsBlock f b block × (kept_block c.0 b block ≡ new)
block_of_old f g c b new h = block_back c.0 f b new (subst (λ (x : Function). IsBlock x b new) c.2 h)

-- an instruction of a cleaned function
pub record IsOld (f : Function) (kept : KeptMarks) (b : ℕ) (new : Inst) : Type 0 where
  pub place : ℕ
  pub inst : Inst
  pub is_inst : IsInst f b place inst
  pub keep : kept b place ≡ true
  pub moved : moved_inst kept inst ≡ new

-- it is a kept one of the old instructions, with the registers of its operands renamed
pub inst_of_old : (f g : Function) (c : IsCleaned f g) (b k : ℕ) (new : Inst) → IsInst g b k new → IsOld f c.0 b new
inst_of_old f g c b k new h =
    let was : (block : Block) × IsBlock f b block × (kept_block c.0 b block ≡ h.block) = block_of_old f g c b h.block h.is_block in
    let i : IsKept c.0 b 0 was.0.insts k new = kept_back c.0 b 0 was.0.insts k new (subst (λ (x : Block). slice_get x.insts k ≡ Some new) (sym was.2) h.is_inst) in
    let same : 0 + i.place ≡ i.place = omega arith in
    record { place = i.place; inst = i.inst; is_inst = record { block = was.0; is_block = was.1; is_inst = i.at }; keep = ap (c.0 b) (sym same) ∙ i.keep; moved = i.moved }
