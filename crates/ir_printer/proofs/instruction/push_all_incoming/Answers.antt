use Rattle.ir_printer.proofs.Common.{◌++◌, ap, ◌∙◌, arith, codes, join_by, take_all, incoming_text}
use Rattle.ir_printer.proofs.Printed.{join_more}
use Rattle.ir_printer.proofs.instruction.push_all_incoming.Goals as goal

pub loop-place-preserved : goal.loop-place-preserved
loop-place-preserved c =
    join_more (incoming_text c.args.called.now.function.now) (codes ", ") c.args.out.now.items _ _ c.args.entries.now c.loop-place.place c.index-entries-place.result c.loop-place-test.true c.index-entries-place.is c.loop-place.invariant c.in_ok-push_incoming.ensures

pub returns : goal.returns
returns c = c.loop-place.invariant ∙ ap (λ xs. c.args.out.now.items ++ join_by (incoming_text c.args.called.now.function.now) (codes ", ") xs) (take_all c.loop-place.place c.args.entries.now (omega arith))
