-- the blocks before this one are reached and have no phi
use Rattle.draft.proofs.Common.{◌≡◌, ℕ, ◌<◌, Some, slice_get, IsBlock, IsPhi, IsReached, Block, Inst}
use Rattle.draft.proofs.draft.has_cycles.Given as goal

abbrev pub invariant-loop-block : goal.invariant-loop-block
invariant-loop-block l =
    record {
      reached : (b : ℕ) → b < l.block → IsReached l.f b;
      no_phi : (b k : ℕ) (block : Block) (inst : Inst) → b < l.block → IsBlock l.f b block → slice_get block.insts k ≡ Some inst → ¬ IsPhi inst.op;
    }
