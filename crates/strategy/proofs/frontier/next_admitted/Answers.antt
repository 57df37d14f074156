use Rattle.strategy.proofs.Common.{map, subst, Stands, ComesNext, members_of, IsRemoved, pair_of, known_by, facts_at, LooksAt}
use Rattle.strategy.proofs.Searching.{IsNext, known_there, looked_found, looked_past, not_gone, searched}
use Rattle.strategy.proofs.Stepping.{still_may_ask}
use Rattle.strategy.proofs.frontier.next_admitted.Goals as goal

pub loop-place-init : goal.loop-place-init
loop-place-init c = record {
  worklist = c.requires.worklist;
  others = c.requires.turned_down;
  gone = not_gone c.args.rules.now.across c.matches_of_the_arena.ensures c.args.rules.now.all.now c.args.conflicts c.requires.asks.ready c.args.draft.now c.requires.settled c.requires.checks c.args.bits.now (known_there c.args.draft.now c.args.bits.now c.args.rules.now.all.now c.requires.settled c.requires.checks c.requires.bits c.draft_bits_are_known_bits.ensures) c.args.verdicts.now (members_of c.args.worklist.now);
}

pub take_first-requires-clause-whole : goal.take_first-requires-clause-whole
take_first-requires-clause-whole c = c.requires.settled.whole

pub look_at-requires-clause-place : goal.look_at-requires-clause-place
look_at-requires-clause-place c = (rw c.in-Some.is at c.take_first.ensures.first).inst

pub look_at-requires-clause-few : goal.look_at-requires-clause-few
look_at-requires-clause-few c = rw c.at.ensures (c.requires.few c.in-Some.place.block)

pub look_at-requires-clause-asks : goal.look_at-requires-clause-asks
look_at-requires-clause-asks c =
    still_may_ask c.args.rules.now c.args.conflicts (map pair_of c.loop-place.invariant.gone.asked.matches) c.args.verdicts.now c.loop-place.verdicts c.requires.asks c.loop-place.invariant.gone.asked.asks

pub returns-in-Some-found-clause-found : goal.returns-in-Some-found-clause-found
returns-in-Some-found-clause-found c =
    let across = c.args.rules.now.across in
    let rules = c.args.rules.now.all.now in
    let p = c.in-Some.place in
    let removed : IsRemoved (members_of c.loop-place.worklist) (members_of c.take_first.new.self) p = rw c.in-Some.is at c.take_first.ensures.removed in
    let first : ComesNext c.args.draft.now c.loop-place.worklist p = rw c.in-Some.is at c.take_first.ensures.first in
    let next : Stands c.args.draft.now p.block p.number → IsNext c.args.draft.now (members_of c.loop-place.worklist) p = λ stands. record { there = first.waits; none_before = first.none_before stands } in
    looked_found across c.matches_of_the_arena.ensures rules c.args.conflicts c.requires.asks.ready c.args.draft.now c.requires.settled c.requires.checks c.args.bits.now (known_there c.args.draft.now c.args.bits.now c.args.rules.now.all.now c.requires.settled c.requires.checks c.requires.bits c.draft_bits_are_known_bits.ensures) c.args.verdicts.now
    c.loop-place.verdicts (members_of c.loop-place.worklist) (members_of c.take_first.new.self) p c.loop-place.invariant.gone c.loop-place.invariant.others removed next c.look_at.new.verdicts c.in-Some-found.chosen
    (subst (LooksAt across rules c.args.conflicts c.args.draft.now (known_by (facts_at c.args.bits.now p.block)) p c.loop-place.verdicts c.look_at.new.verdicts) c.in-Some-found.is (rw c.at.ensures at c.in_ok-found.ensures))

pub loop-place-preserved : goal.loop-place-preserved
loop-place-preserved c =
    let across = c.args.rules.now.across in
    let rules = c.args.rules.now.all.now in
    let p = c.in-Some.place in
    let removed : IsRemoved (members_of c.loop-place.worklist) (members_of c.take_first.new.self) p = rw c.in-Some.is at c.take_first.ensures.removed in
    let first : ComesNext c.args.draft.now c.loop-place.worklist p = rw c.in-Some.is at c.take_first.ensures.first in
    let next : Stands c.args.draft.now p.block p.number → IsNext c.args.draft.now (members_of c.loop-place.worklist) p = λ stands. record { there = first.waits; none_before = first.none_before stands } in
    let on = looked_past across c.matches_of_the_arena.ensures rules c.args.conflicts c.requires.asks.ready c.args.draft.now c.requires.settled c.requires.checks c.args.bits.now (known_there c.args.draft.now c.args.bits.now c.args.rules.now.all.now c.requires.settled c.requires.checks c.requires.bits c.draft_bits_are_known_bits.ensures) c.args.verdicts.now
    c.loop-place.verdicts (members_of c.loop-place.worklist) (members_of c.take_first.new.self) p c.loop-place.invariant.gone c.loop-place.invariant.others removed next c.look_at.new.verdicts
    (subst (LooksAt across rules c.args.conflicts c.args.draft.now (known_by (facts_at c.args.bits.now p.block)) p c.loop-place.verdicts c.look_at.new.verdicts) c.in_default-found.is (rw c.at.ensures at c.in_ok-found.ensures)) in
    record { worklist = c.take_first.ensures.worklist; others = on.1; gone = on.0 }

pub loop-place-smaller : goal.loop-place-smaller
loop-place-smaller c = rw c.in-Some.is at c.take_first.ensures.fewer

pub returns-clause-found : goal.returns-clause-found
returns-clause-found c =
    searched c.args.rules.now.across c.matches_of_the_arena.ensures c.args.rules.now.all.now c.args.conflicts c.requires.asks.ready c.args.draft.now c.requires.settled c.requires.checks c.args.bits.now (known_there c.args.draft.now c.args.bits.now c.args.rules.now.all.now c.requires.settled c.requires.checks c.requires.bits c.draft_bits_are_known_bits.ensures) c.args.verdicts.now
    c.loop-place.verdicts (members_of c.loop-place.worklist) (members_of c.take_first.new.self) c.loop-place.invariant.gone c.loop-place.invariant.others (rw c.in_default.is at c.take_first.ensures.none)
