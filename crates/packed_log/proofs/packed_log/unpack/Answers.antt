use Rattle.packed_log.proofs.Common.{refl, sym, ap, subst, ◌∙◌, rules, steps, AllHintsFit}
use Rattle.packed_log.proofs.Steps.{none_taken, next_fits, step_taken, all_taken}
use Rattle.packed_log.proofs.packed_log.unpack.Goals as goal

pub loop-clause-init : goal.loop-clause-init
loop-clause-init c = none_taken _ _ _ _ _ c.as_slice-clauses.ensures refl c.new-log.ensures (subst (AllHintsFit _) (sym c.as_slice-rest.ensures.value) c.packed.invariant)

pub take_hints-requires : goal.take_hints-requires
take_hints-requires c = next_fits _ _ c.clause-item.result _ _ _ c.loop-clause-test.true c.clause-item.is c.loop-clause.invariant

pub loop-clause-preserved : goal.loop-clause-preserved
loop-clause-preserved c =
    step_taken _ _ c.clause-item.result _ _ _ _ _ _ c.loop-clause-test.true c.clause-item.is (search rules) c.in_ok-hints.ensures.hints c.in_ok-hints.ensures.behind
    c.in_ok-push.ensures.ok c.loop-clause.invariant

pub returns : goal.returns
returns c = all_taken _ _ _ _ _ _ c.as_slice-clauses.ensures c.loop-clause-test.false c.loop-clause.invariant ∙ ap (steps _) c.as_slice-rest.ensures.value ∙ c.packed.view_is
