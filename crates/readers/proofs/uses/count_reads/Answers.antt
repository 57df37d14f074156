use Rattle.readers.proofs.Common.{List, subst, arith, take_all, Operand, AreCounted, operands_at}
use Rattle.readers.proofs.Counting.{counted_more, counted_none, next_number}
use Rattle.readers.proofs.uses.count_reads.Goals as goal

pub loop-index-init : goal.loop-index-init
loop-index-init c = counted_none c.args.uses.now

pub count_operand-requires : goal.count_operand-requires
count_operand-requires c =
    let l = c.loop-index in
    next_number (operands_at c.args.arena.now c.args.place) l.index c.operand_at.result c.args.uses.now l.uses (omega arith) c.operand_at.ensures c.requires.there (λ r. (l.invariant.there r).0)

pub loop-index-preserved : goal.loop-index-preserved
loop-index-preserved c =
    let l = c.loop-index in
    counted_more (operands_at c.args.arena.now c.args.place) l.index c.operand_at.result c.args.uses.now l.uses c.count_operand.new.uses (omega arith) c.operand_at.ensures l.invariant c.in_ok-count_operand.ensures

pub returns : goal.returns
returns c =
    let l = c.loop-index in
    subst (λ (reads : List Operand). AreCounted reads c.args.uses.now l.uses) (take_all l.index (operands_at c.args.arena.now c.args.place) (omega arith)) l.invariant
