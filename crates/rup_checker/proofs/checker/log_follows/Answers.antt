use Rattle.rup_checker.proofs.Common.{◌≡◌, Some, refl, arith, slice_get, slice_get_read, slice_get_within, StepFollows, clauses_before}
use Rattle.rup_checker.proofs.LogLemmas.{FollowsBefore-more, within_more}
use Rattle.rup_checker.proofs.checker.log_follows.Goals as goal

pub loop-place-preserved : goal.loop-place-preserved
loop-place-preserved c =
    let set = c.args.cnf.now in
    let log = c.args.log.now in
    let place = c.loop-place.place in
    let step = c.index-log-place.result in
    let at : slice_get log place ≡ Some step = slice_get_read log _ place step refl c.loop-place-test.true c.index-log-place.is in
    let follows : StepFollows set (clauses_before set log place) step = c.if-not-step_follows.ensures.follows.0 refl in
    record {
      follows = FollowsBefore-more set log place step at follows c.loop-place.invariant.follows;
      within = within_more set log place step at follows c.loop-place.invariant.within;
      blank = c.if-not-step_follows.ensures.blank;
      unused = c.if-not-step_follows.ensures.unused;
    }

pub returns : goal.returns
returns c = (λ yes k step at. c.loop-place.invariant.follows k step (omega (arith, slice_get_within c.args.log.now k step at)) at, λ follows. refl)
