use Rattle.blast_rule.proofs.Common.{take, AllZip, HoldsOperand}
use Rattle.blast_rule.proofs.operand.operands_held.Given as goal

abbrev pub invariant-loop-operand : goal.invariant-loop-operand
invariant-loop-operand g l =
    let m = g.C.State in
    AllZip (HoldsOperand (m.has_literal l.c) (m.admits l.c) (m.value l.c) l.typing l.scope) (take l.operand-index l.operands) l.held
