-- the instructions before this one are no phis
use Rattle.draft.proofs.Common.{◌≡◌, ℕ, ◌<◌, Some, slice_get, IsPhi, Inst}
use Rattle.draft.proofs.draft.has_phi.Given as goal

abbrev pub invariant-loop-inst : goal.invariant-loop-inst
invariant-loop-inst l = (k : ℕ) (inst : Inst) → k < l.inst-index → slice_get l.block.insts k ≡ Some inst → ¬ IsPhi inst.op
