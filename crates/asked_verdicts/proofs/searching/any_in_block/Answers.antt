use Rattle.asked_verdicts.proofs.Common.{map, length, refl, sym, ap, subst, ◌∙◌, arith, results_none, AreMatchesWhere, IsAt, pair_of}
use Rattle.asked_verdicts.proofs.Parts.{asks_these, next_place, no_place_asked, whole_block}
use Rattle.asked_verdicts.proofs.Sequence.{still_verdicts}
use Rattle.asked_verdicts.proofs.searching.any_in_block.Goals as goal
use Rattle.asked_verdicts.proofs.searching.any_in_block.Goals.{After-as_slice-matches}

are_there : (c : After-as_slice-matches) → AreMatchesWhere c.args.rules.now.across c.args.rules.now.all.now c.args.f.now (IsAt c.args.block c.loop-place.place) c.as_slice-matches.result.now
are_there c = subst (AreMatchesWhere c.args.rules.now.across c.args.rules.now.all.now c.args.f.now (IsAt c.args.block c.loop-place.place)) (sym c.as_slice-matches.ensures) c.in_ok-found.ensures

pub loop-place-init : goal.loop-place-init
loop-place-init c = record {
  asked = no_place_asked c.args.rules.now.across c.args.rules.now.all.now c.args.conflicts c.args.f.now c.args.block c.args.verdicts.now;
  block = refl;
  few = λ k d lt. absurd (omega (arith, lt, ap length c.new.ensures));
  known = λ asks. c.new.ensures ∙ sym (results_none c.args.block);
}

pub matches_at-requires-clause-known : goal.matches_at-requires-clause-known
matches_at-requires-clause-known c asks x =
    rw (c.loop-place.invariant.block, c.loop-place.invariant.known (c.requires.asks asks)) refl

pub any_of-requires-clause-matches : goal.any_of-requires-clause-matches
any_of-requires-clause-matches c =
    let are = are_there (goal.at.any_of-requires-clause-matches c).After-as_slice-matches in
    (c.args.rules.now.across, c.args.f.now, λ k d lt. (are.each k d lt).0)

pub any_of-requires-clause-verdicts : goal.any_of-requires-clause-verdicts
any_of-requires-clause-verdicts c =
    still_verdicts c.args.rules.now.all.now c.args.conflicts (map pair_of c.loop-place.invariant.asked.matches) c.args.verdicts.now c.loop-place.verdicts c.requires.verdicts c.loop-place.invariant.asked.asks

pub loop-place-preserved : goal.loop-place-preserved
loop-place-preserved c =
    let rules = c.args.rules.now.all.now in
    let conflicts = c.args.conflicts in
    let f = c.args.f.now in
    let b = c.args.block in
    let k = c.loop-place.place in
    let now = c.loop-place.verdicts in
    let after = c.any_of.new.verdicts in
    let admitted = c.in_ok-admitted.admitted in
    record {
      asked = next_place c.args.rules.now.across rules conflicts f b k c.args.verdicts.now now after c.loop-place.any admitted c.loop-place.invariant.asked
          (asks_these c.args.rules.now.across rules conflicts f (IsAt b k) c.as_slice-matches.result.now now after admitted (are_there (goal.at.loop-place-preserved c).After-as_slice-matches) c.in_ok-admitted.ensures.asks c.in_ok-admitted.ensures.answer);
      block = c.note_result.ensures.block ∙ c.loop-place.invariant.block;
      few = c.in_ok-note_result.ensures.few;
      known = λ asks. rw c.loop-place.invariant.block at (c.in_ok-note_result.ensures.results asks);
    }

pub note_result-requires-clause-results : goal.note_result-requires-clause-results
note_result-requires-clause-results c asks = rw c.loop-place.invariant.block (c.loop-place.invariant.known asks)

pub returns : goal.returns
returns c =
    whole_block c.args.rules.now.across c.args.rules.now.all.now c.args.conflicts c.args.f.now c.args.block c.loop-place.place c.args.verdicts.now c.loop-place.verdicts c.loop-place.any c.requires.ready
    (omega (arith, c.end_of-place-end.ensures, c.loop-place-test.false)) c.loop-place.invariant.asked
