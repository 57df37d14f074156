-- the copies so far are those of the first instructions
use Rattle.std.proofs.Common.{◌≡◌, take}
use Rattle.ir_core.proofs.copy.copy_insts.Given as goal

abbrev pub invariant-loop-inst : goal.invariant-loop-inst
invariant-loop-inst l = l.copies ≡ take l.inst-index l.inst-items
