use Rattle.ir_reader.proofs.Common.{sym, ◌∙◌, arith, false≢true}
use Rattle.ir_reader.proofs.PhiLemmas.{no_predecessor, two_operands, knows_more, among_more, knows_all, all_among, fit_exactly}
use Rattle.ir_reader.proofs.phis.fit_with.Goals as goal

pub returns-then-not-contains : goal.returns-then-not-contains
returns-then-not-contains c =
    let unfit = no_predecessor c.args.entries.now c.loop-operand.operand-index c.loop-operand-item.result (omega arith) c.loop-operand-item.is c.args.predecessors.now (sym c.contains.ensures ∙ c.if-not-contains.true) in
    (λ h. absurd (false≢true h), λ fit. absurd (unfit fit))

pub returns-then-not-branch : goal.returns-then-not-branch
returns-then-not-branch c =
    let unfit = two_operands c.args.entries.now c.loop-operand.operand-index c.loop-operand-item.result (omega arith) c.loop-operand-item.is c.args.predecessors.now c.loop-operand.operands c.loop-operand.invariant.some c.in_ok-keeps.field-0 c.if-not-branch.true c.in_ok-keeps.ensures.keeps in
    (λ h. absurd (false≢true h), λ fit. absurd (unfit fit))

pub loop-operand-preserved : goal.loop-operand-preserved
loop-operand-preserved c =
    let entries = c.args.entries.now in
    let i = c.loop-operand.operand-index in
    let entry = c.loop-operand-item.result in
    record {
      some = knows_more entries i entry (omega arith) c.loop-operand-item.is c.loop-operand.operands c.keeps.new.operands c.loop-operand.invariant.some (c.in_ok-keeps.ensures.keeps.0 c.if-not-branch.false) c.in_ok-keeps.ensures.has c.in_ok-keeps.ensures.others;
      among = among_more entries i entry (omega arith) c.loop-operand-item.is c.args.predecessors.now c.loop-operand.invariant.among (sym c.contains.ensures ∙ c.if-not-contains.false);
    }

pub returns : goal.returns
returns c =
    let entries = c.args.entries.now in
    let set = c.args.predecessors.now in
    let i = c.loop-operand.operand-index in
    let operands = c.loop-operand.operands in
    let some = knows_all entries i operands (omega arith) c.loop-operand.invariant.some in
    let among = all_among entries i set (omega arith) c.loop-operand.invariant.among in
    let fit = fit_exactly set entries operands some c.as_slice.result.now c.as_slice.ensures.keys among in
    (λ h. fit.0 (c.have_all.ensures.0 h), λ h. c.have_all.ensures.1 (fit.1 h))
