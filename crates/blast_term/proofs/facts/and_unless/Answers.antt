use Rattle.blast_term.proofs.Common.{arith, IfOk-weaker, Adds-trans, Adds-weaken}
use Rattle.blast_term.proofs.facts.and_unless.Goals as goal

pub and-requires-clause-own_a : goal.and-requires-clause-own_a
and-requires-clause-own_a g c = c.or.ensures.adds.keeps.literals c.args.met c.requires.own_met

pub and-requires-clause-own_b : goal.and-requires-clause-own_b
and-requires-clause-own_b g c = c.in_ok-excused.ensures.own

pub returns-clause-value : goal.returns-clause-value
returns-clause-value g c = IfOk-weaker c.and.result _ _
    (λ both known inputs admitted.
    let keeps = c.or.ensures.adds.keeps in
    rw (keeps.values inputs c.args.met admitted c.requires.own_met, c.in_ok-excused.ensures.value inputs admitted) at (known inputs (keeps.admitted inputs admitted)))
    c.and.ensures.value

pub returns-clause-own : goal.returns-clause-own
returns-clause-own g c = c.and.ensures.own

pub returns-in_err-excused-clause-adds : goal.returns-in_err-excused-clause-adds
returns-in_err-excused-clause-adds g c = Adds-weaken c.or.ensures.adds (omega arith)

pub returns-clause-adds : goal.returns-clause-adds
returns-clause-adds g c = Adds-trans c.or.ensures.adds c.and.ensures.adds
