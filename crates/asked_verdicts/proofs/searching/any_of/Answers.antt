use Rattle.asked_verdicts.proofs.Common.{◌≡◌, ◌+◌, List, ◌++◌, ◌∷◌, [], map, take, sym, subst, arith, ◌||◌, All, Any, MatchBool, take_all, Match, IsMatchAmong, pair_of, IsTurnedDown, Asks}
use Rattle.strategy_core.specs.Asked.{IsAdmitted}
use Rattle.asked_verdicts.proofs.Passing.{next_match, match_at, rule_within, rule_of, asks_more, any_more}
use Rattle.asked_verdicts.proofs.Sequence.{still_verdicts}
use Rattle.asked_verdicts.proofs.searching.any_of.Goals as goal
use Rattle.asked_verdicts.proofs.searching.any_of.Goals.{After-asking-item}

is_match : (c : After-asking-item) → IsMatchAmong c.requires.matches.0 c.args.rules.now c.requires.matches.1 c.asking-item.result
is_match c = match_at c.args.rules.now c.requires.matches.1 c.args.matches.now c.loop-asking.asking-index c.asking-item.result c.requires.matches.2 c.loop-asking-test.true c.asking-item.is

pub admits-requires-clause-place : goal.admits-requires-clause-place
admits-requires-clause-place c = rule_within c.args.rules.now c.requires.matches.1 c.asking-item.result (is_match (goal.at.admits-requires-clause-place c).After-asking-item)

pub admits-requires-clause-rule : goal.admits-requires-clause-rule
admits-requires-clause-rule c = rule_of c.args.rules.now c.requires.matches.1 c.asking-item.result c.requires.ready (is_match (goal.at.admits-requires-clause-rule c).After-asking-item)

pub admits-requires-clause-verdicts : goal.admits-requires-clause-verdicts
admits-requires-clause-verdicts c = still_verdicts c.args.rules.now c.args.conflicts (map pair_of (take c.loop-asking.asking-index c.args.matches.now)) c.args.verdicts.now c.loop-asking.verdicts c.requires.verdicts c.loop-asking.invariant.asks

pub loop-asking-preserved : goal.loop-asking-preserved
loop-asking-preserved c =
    let rules = c.args.rules.now in
    let conflicts = c.args.conflicts in
    let ms = c.args.matches.now in
    let k = c.loop-asking.asking-index in
    let m = c.asking-item.result in
    let first = c.args.verdicts.now in
    let before = c.loop-asking.verdicts in
    let after = c.admits.new.self in
    let one = c.in_ok-admitted.ensures.asks in
    let any = c.loop-asking.any || c.in_ok-admitted.admitted in
    let next : take (k + 1) ms ≡ take k ms ++ m ∷ [] = next_match ms k m c.loop-asking-test.true c.asking-item.is in
    record {
      asks = subst (λ (l : List Match). Asks rules conflicts (map pair_of l) first after) (sym next) (asks_more rules conflicts (take k ms) m first before after one c.loop-asking.invariant.asks);
      answer = subst (λ (l : List Match). MatchBool any (Any (IsAdmitted after.table) l) (All (IsTurnedDown after.table) l)) (sym next) (any_more rules conflicts (take k ms) m first before after one c.loop-asking.any c.in_ok-admitted.admitted c.loop-asking.invariant.answer c.in_ok-admitted.ensures.answer);
    }

pub returns-clause-asks : goal.returns-clause-asks
returns-clause-asks c =
    subst (λ (l : List Match). Asks c.args.rules.now c.args.conflicts (map pair_of l) c.args.verdicts.now c.loop-asking.verdicts) (take_all c.loop-asking.asking-index c.args.matches.now (omega arith)) c.loop-asking.invariant.asks

pub returns-clause-answer : goal.returns-clause-answer
returns-clause-answer c =
    let table = c.loop-asking.verdicts.table in
    subst (λ (l : List Match). MatchBool c.loop-asking.any (Any (IsAdmitted table) l) (All (IsTurnedDown table) l)) (take_all c.loop-asking.asking-index c.args.matches.now (omega arith)) c.loop-asking.invariant.answer
