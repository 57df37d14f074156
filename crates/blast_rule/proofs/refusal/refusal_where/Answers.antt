use Rattle.blast_rule.proofs.Common.{arith, IfOk-weaker, Adds-trans, Adds-weaken}
use Rattle.blast_rule.proofs.Whole.{true_where}
use Rattle.blast_rule.proofs.refusal.refusal_where.Goals as goal

pub refusal-requires-clause-same_width : goal.refusal-requires-clause-same_width
refusal-requires-clause-same_width g c = c.requires.same_width

pub refusal-requires-clause-own_source : goal.refusal-requires-clause-own_source
refusal-requires-clause-own_source g c = c.requires.own_source

pub refusal-requires-clause-own_target : goal.refusal-requires-clause-own_target
refusal-requires-clause-own_target g c = c.requires.own_target

pub and-requires-clause-own_a : goal.and-requires-clause-own_a
and-requires-clause-own_a g c = c.refusal.ensures.adds.keeps.literals c.args.met c.requires.own_met

pub and-requires-clause-own_b : goal.and-requires-clause-own_b
and-requires-clause-own_b g c = c.in_ok-refused.ensures.own

pub returns-in_err-refused-clause-adds : goal.returns-in_err-refused-clause-adds
returns-in_err-refused-clause-adds g c = Adds-weaken c.refusal.ensures.adds (omega arith)

pub returns-clause-value : goal.returns-clause-value
returns-clause-value g c =
    let keeps = c.refusal.ensures.adds.keeps in
    IfOk-weaker c.and.result _ _
    (λ bad known inputs admitted. true_where _ _ _ _ _ (keeps.values inputs c.args.met admitted c.requires.own_met) (c.in_ok-refused.ensures.value inputs admitted) (known inputs (keeps.admitted inputs admitted)))
    c.and.ensures.value

pub returns-clause-own : goal.returns-clause-own
returns-clause-own g c = c.and.ensures.own

pub returns-clause-adds : goal.returns-clause-adds
returns-clause-adds g c = Adds-trans c.refusal.ensures.adds c.and.ensures.adds
