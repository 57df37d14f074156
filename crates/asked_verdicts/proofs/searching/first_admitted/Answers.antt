use Rattle.asked_verdicts.proofs.Common.{◌≡◌, ◌+◌, List, ◌++◌, ◌∷◌, [], length, map, take, refl, sym, subst, arith, All, when_true, when_false, take_all, slice_get_read, Match, IsMatchInAnyOrder, pair_of, IsTurnedDown, Asks}
use Rattle.strategy_core.specs.Asked.{IsAdmitted}
use Rattle.asked_verdicts.proofs.Passing.{next_match, match_at, rule_within, rule_of, asks_more, still_turned_down, turned_down_more}
use Rattle.asked_verdicts.proofs.Sequence.{still_verdicts}
use Rattle.asked_verdicts.proofs.searching.first_admitted.Goals as goal
use Rattle.asked_verdicts.proofs.searching.first_admitted.Goals.{After-index-matches-place}

is_match : (c : After-index-matches-place) → IsMatchInAnyOrder c.requires.matches.0 c.requires.matches.1 c.args.rules.now c.requires.matches.2 c.index-matches-place.result
is_match c = match_at c.args.rules.now c.requires.matches.2 c.args.matches.now c.loop-place.place c.index-matches-place.result c.requires.matches.3 c.loop-place-test.true c.index-matches-place.is

pub admits-requires-clause-place : goal.admits-requires-clause-place
admits-requires-clause-place c = rule_within c.args.rules.now c.requires.matches.2 c.index-matches-place.result (is_match (goal.at.admits-requires-clause-place c).After-index-matches-place)

pub admits-requires-clause-rule : goal.admits-requires-clause-rule
admits-requires-clause-rule c = rule_of c.args.rules.now c.requires.matches.2 c.index-matches-place.result c.requires.ready (is_match (goal.at.admits-requires-clause-rule c).After-index-matches-place)

pub admits-requires-clause-verdicts : goal.admits-requires-clause-verdicts
admits-requires-clause-verdicts c = still_verdicts c.args.rules.now c.args.conflicts (map pair_of (take c.loop-place.place c.args.matches.now)) c.args.verdicts.now c.loop-place.verdicts c.requires.verdicts c.loop-place.invariant.asks

pub returns-then-branch : goal.returns-then-branch
returns-then-branch c =
    let ms = c.args.matches.now in
    let k = c.loop-place.place in
    let m = c.index-matches-place.result in
    let before = c.loop-place.verdicts in
    let after = c.admits.new.self in
    let one = c.in_ok-admits.ensures.asks in (
      m,
      slice_get_read ms (length ms) k m refl c.loop-place-test.true c.index-matches-place.is,
      asks_more c.args.rules.now c.args.conflicts (take k ms) m c.args.verdicts.now before after one c.loop-place.invariant.asks,
      still_turned_down c.args.rules.now c.args.conflicts (take k ms) m c.args.verdicts.now before after one c.loop-place.invariant.turned_down,
      when_true (IsAdmitted after.table m) (IsTurnedDown after.table m) c.if-branch.true c.in_ok-admits.ensures.answer,
    )

pub loop-place-preserved : goal.loop-place-preserved
loop-place-preserved c =
    let rules = c.args.rules.now in
    let conflicts = c.args.conflicts in
    let ms = c.args.matches.now in
    let k = c.loop-place.place in
    let m = c.index-matches-place.result in
    let first = c.args.verdicts.now in
    let before = c.loop-place.verdicts in
    let after = c.admits.new.self in
    let one = c.in_ok-admits.ensures.asks in
    let next : take (k + 1) ms ≡ take k ms ++ m ∷ [] = next_match ms k m c.loop-place-test.true c.index-matches-place.is in
    let no = when_false (IsAdmitted after.table m) (IsTurnedDown after.table m) c.if-branch.false c.in_ok-admits.ensures.answer in
    record {
      asks = subst (λ (l : List Match). Asks rules conflicts (map pair_of l) first after) (sym next) (asks_more rules conflicts (take k ms) m first before after one c.loop-place.invariant.asks);
      turned_down = subst (λ (l : List Match). All (IsTurnedDown after.table) l) (sym next) (turned_down_more rules conflicts (take k ms) m first before after one c.loop-place.invariant.turned_down no);
    }

pub returns : goal.returns
returns c =
    let ms = c.args.matches.now in
    let now = c.loop-place.verdicts in
    let all : take c.loop-place.place ms ≡ ms = take_all c.loop-place.place ms (omega arith) in (
      subst (λ (l : List Match). Asks c.args.rules.now c.args.conflicts (map pair_of l) c.args.verdicts.now now) all c.loop-place.invariant.asks,
      subst (λ (l : List Match). All (IsTurnedDown now.table) l) all c.loop-place.invariant.turned_down,
    )
