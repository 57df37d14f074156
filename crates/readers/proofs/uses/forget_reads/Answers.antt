use Rattle.readers.proofs.Common.{List, subst, arith, take_all, Operand, AreCounted, operands_at}
use Rattle.readers.proofs.Counting.{counted_none, forgotten_more, next_counted, next_number}
use Rattle.readers.proofs.uses.forget_reads.Goals as goal

pub loop-index-init : goal.loop-index-init
loop-index-init c = counted_none c.args.uses.now

pub forget_operand-requires-clause-there : goal.forget_operand-requires-clause-there
forget_operand-requires-clause-there c =
    let l = c.loop-index in
    next_number (operands_at c.args.arena.now c.args.place) l.index c.operand_at.result c.args.uses.now l.uses (omega arith) c.operand_at.ensures c.requires.there (λ r. (l.invariant.there r).1)

pub forget_operand-requires-clause-counted : goal.forget_operand-requires-clause-counted
forget_operand-requires-clause-counted c r =
    let l = c.loop-index in
    next_counted (operands_at c.args.arena.now c.args.place) l.index c.operand_at.result c.args.uses.now l.uses r (omega arith) c.operand_at.ensures (c.requires.counted r) l.invariant

pub loop-index-preserved : goal.loop-index-preserved
loop-index-preserved c =
    let l = c.loop-index in
    forgotten_more (operands_at c.args.arena.now c.args.place) l.index c.operand_at.result c.args.uses.now l.uses c.forget_operand.new.uses (omega arith) c.operand_at.ensures l.invariant c.forget_operand.ensures

pub returns : goal.returns
returns c =
    let l = c.loop-index in
    subst (λ (reads : List Operand). AreCounted reads l.uses c.args.uses.now) (take_all l.index (operands_at c.args.arena.now c.args.place) (omega arith)) l.invariant
