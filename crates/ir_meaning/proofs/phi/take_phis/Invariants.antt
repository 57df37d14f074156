use Rattle.ir_meaning.proofs.Common.{Some, held_of}
use Rattle.ir_meaning.proofs.Following.{TakenUpTo}
use Rattle.ir_meaning.proofs.phi.take_phis.Given as goal

abbrev pub invariant-loop-inst : goal.invariant-loop-inst
invariant-loop-inst l = TakenUpTo (held_of l.f l.table.values.items) (Some l.from) l.insts l.inst-index l.taken.items
