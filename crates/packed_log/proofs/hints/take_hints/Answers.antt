use Rattle.packed_log.proofs.Taken.{no_hint_taken, hint_taken, hints_taken, difference_fits, hint_fits}
use Rattle.packed_log.proofs.hints.take_hints.Goals as goal

pub loop-place-init : goal.loop-place-init
loop-place-init c = no_hint_taken _ _ _ c.new-hints.ensures c.take_number-count.ensures.behind

pub take_number-requires : goal.take_number-requires
take_number-requires c =
    difference_fits _ _ _ _ _ _ c.requires c.take_number-count.ensures.number c.loop-place-test.true c.loop-place.invariant

pub number_after-before-requires : goal.number_after-before-requires
number_after-before-requires c = hint_fits _ _ _ _ _ _ _ c.requires c.take_number-count.ensures.number c.loop-place-test.true c.take_number.ensures.number c.loop-place.invariant

pub loop-place-preserved : goal.loop-place-preserved
loop-place-preserved c = hint_taken _ _ _ _ _ _ _ _ _ c.take_number.ensures.number c.take_number.ensures.behind c.number_after-before.ensures c.in_ok-push.ensures.ok c.loop-place.invariant

pub returns-clause-hints : goal.returns-clause-hints
returns-clause-hints c = (hints_taken _ _ _ _ _ _ c.take_number-count.ensures.number c.loop-place-test.false c.loop-place.auto._place-end c.loop-place.invariant).0

pub returns-clause-behind : goal.returns-clause-behind
returns-clause-behind c = (hints_taken _ _ _ _ _ _ c.take_number-count.ensures.number c.loop-place-test.false c.loop-place.auto._place-end c.loop-place.invariant).1
