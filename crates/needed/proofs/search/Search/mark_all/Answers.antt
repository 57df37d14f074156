use Rattle.needed.proofs.MarkLemmas.{marked_next}
use Rattle.needed.proofs.search.Search.mark_all.Goals as goal

pub loop-operand-preserved : goal.loop-operand-preserved
loop-operand-preserved c = marked_next c.args.numbers.now.firsts.items c.args.operands.now c.loop-operand.operand-index c.operand-item.result c.args.self.now c.loop-operand.self c.mark.new.self c.loop-operand.invariant c.loop-operand-test.true c.operand-item.is c.in_ok-mark.ensures
