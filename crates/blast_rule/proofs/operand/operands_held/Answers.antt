use Rattle.blast_rule.proofs.Common.{◌∷◌, [], ◌++◌, take, sym, ap, ◌∙◌, arith, take_more, all_zipped_more, HoldsOperand}
use Rattle.blast_rule.proofs.operand.operands_held.Goals as goal

pub operand_held-requires-clause-ready : goal.operand_held-requires-clause-ready
operand_held-requires-clause-ready g c = rw (sym c.operand-item.is) at (c.requires.ready c.loop-operand.operand-index c.operand-item.result (omega arith))

pub loop-operand-preserved : goal.loop-operand-preserved
loop-operand-preserved g c =
    let m = g.C.State in
    let i = c.loop-operand.operand-index in
    let more = take_more c.args.operands.now i c.operand-item.result (omega arith) ∙ ap (λ operand. take i c.args.operands.now ++ operand ∷ []) (sym c.operand-item.is) in
    let next = c.in_ok-operand_held.ensures in
    rw (c.in_ok-push.ensures.ok, more)
    (all_zipped_more (HoldsOperand (m.has_literal c.args.c.now) (m.admits c.args.c.now) (m.value c.args.c.now) c.args.typing.now c.args.scope) (take i c.args.operands.now) c.loop-operand.held
    c.operand-item.result c.in_ok-operand_held.field-0 c.loop-operand.invariant (record { gives = next.gives; width = next.width; some = next.some; own = next.own }))
