use Rattle.strategy.proofs.Common.{◌≡◌, ◌+◌, ◌*◌, ◌-◌, ◌≤◌, ℕ, suc, true, false, length, sym, subst, ◌∙◌, arith, All, MeetsChecks, Block, Function, arena_of, function_of, AsksAll, IsAnywhere, IsCountable, StepsOrEnds}
use Rattle.places.specs.Orders.{none}
use Rattle.strategy.proofs.Requeueing.{few_numbers, room_at_first, room_for_fewer}
use Rattle.strategy.proofs.Sizes.{countable_less}
use Rattle.strategy.proofs.Stepping.{Along, ended, no_step_yet, one_step_more, spent, still_may_ask}
use Rattle.strategy.proofs.frontier.rewrite_tidied.Goals as goal

pub of-requires-clause-insts : goal.of-requires-clause-insts
of-requires-clause-insts c = few_numbers c.args.options.steps c.args.f (omega arith) c.requires.countable

pub loop-count-init : goal.loop-count-init
loop-count-init c =
    let across = c.args.rules.now.across in
    let rules = c.args.rules.now.all.now in
    let conflicts = c.args.options.conflicts in
    let steps = c.args.options.steps in
    let f = c.args.f in
    let before = c.args.verdicts.now in
    let frontier = c.in_ok-frontier.frontier in
    let none_made : steps ≡ steps - 0 = omega arith in
    let room : All (λ (b : Block). length b.insts + 32 * steps ≤ none) (arena_of frontier.draft).blocks =
    subst (λ (a : Function). All (λ (b : Block). length b.insts + 32 * steps ≤ none) a.blocks) (sym c.in_ok-frontier.ensures.arena)
    (room_at_first steps f (omega arith) c.requires.countable) in
    record {
      along = subst (λ (g : Function). Along c.args.options.fold across rules conflicts steps 0 f g before before) (sym c.in_ok-frontier.ensures.function)
          (no_step_yet c.args.options.fold across rules conflicts steps f before c.requires.checks c.requires.numbers c.requires.folded c.requires.countable);
      frontier = c.in_ok-frontier.ensures.frontier across before.table;
      room = subst (λ (n : ℕ). All (λ (b : Block). length b.insts + 32 * n ≤ none) (arena_of frontier.draft).blocks) none_made room;
    }

pub step-requires-clause-room : goal.step-requires-clause-room
step-requires-clause-room c = room_for_fewer (c.args.options.steps - c.loop-count.count) 1 c.loop-count.frontier.draft (omega arith) c.loop-count.invariant.room

pub step-requires-clause-countable : goal.step-requires-clause-countable
step-requires-clause-countable c = countable_less (c.args.options.steps - c.loop-count.count) 1 (function_of c.loop-count.frontier.draft) (omega arith) c.loop-count.invariant.along.countable

pub step-requires-clause-asks : goal.step-requires-clause-asks
step-requires-clause-asks c =
    still_may_ask c.args.rules.now c.args.options.conflicts c.loop-count.invariant.along.pairs c.args.verdicts.now c.loop-count.verdicts c.requires.asks c.loop-count.invariant.along.asks

pub returns-then-not-stepped : goal.returns-then-not-stepped
returns-then-not-stepped c =
    let across = c.args.rules.now.across in
    let rules = c.args.rules.now.all.now in
    let conflicts = c.args.options.conflicts in
    let f = function_of c.loop-count.frontier.draft in
    let g = function_of c.in_ok-stepped.next.draft in
    let stands : c.in_ok-stepped.stepped ≡ false = cc in
    ended c.args.options.fold across rules conflicts c.args.options.steps c.loop-count.count c.args.f f g c.in_ok-last.last c.args.verdicts.now c.loop-count.verdicts c.step.new.verdicts (omega arith)
    c.loop-count.invariant.along c.in_ok-last.ensures (subst (StepsOrEnds c.args.options.fold across rules conflicts f g c.loop-count.verdicts c.step.new.verdicts) stands c.in_ok-stepped.ensures.steps)

pub loop-count-preserved : goal.loop-count-preserved
loop-count-preserved c =
    let across = c.args.rules.now.across in
    let rules = c.args.rules.now.all.now in
    let conflicts = c.args.options.conflicts in
    let steps = c.args.options.steps in
    let count = c.loop-count.count in
    let f = function_of c.loop-count.frontier.draft in
    let g = function_of c.in_ok-stepped.next.draft in
    let stands : c.in_ok-stepped.stepped ≡ true = cc in
    let left = steps - (count + 1) in
    record {
      along = one_step_more c.args.options.fold across rules conflicts steps count c.args.f f g c.args.verdicts.now c.loop-count.verdicts c.step.new.verdicts (omega arith) c.requires.asks.ready c.loop-count.invariant.along
          (subst (StepsOrEnds c.args.options.fold across rules conflicts f g c.loop-count.verdicts c.step.new.verdicts) stands c.in_ok-stepped.ensures.steps)
          c.in_ok-stepped.ensures.checks c.in_ok-stepped.ensures.numbers c.in_ok-stepped.ensures.folded;
      frontier = c.in_ok-stepped.ensures.frontier;
      room = c.in_ok-stepped.ensures.room left (room_for_fewer (steps - count) (suc left) c.loop-count.frontier.draft (omega arith) c.loop-count.invariant.room)
          (countable_less (steps - count) (suc left) f (omega arith) c.loop-count.invariant.along.countable);
    }

pub search_last-requires-clause-checks : goal.search_last-requires-clause-checks
search_last-requires-clause-checks c = subst MeetsChecks (sym c.in_ok-last-2.ensures) c.loop-count.invariant.along.checks

pub search_last-requires-clause-countable : goal.search_last-requires-clause-countable
search_last-requires-clause-countable c =
    subst (IsCountable 0) (sym c.in_ok-last-2.ensures) (countable_less (c.args.options.steps - c.loop-count.count) 0 (function_of c.loop-count.frontier.draft) (omega arith) c.loop-count.invariant.along.countable)

pub search_last-requires-clause-asks : goal.search_last-requires-clause-asks
search_last-requires-clause-asks c =
    still_may_ask c.args.rules.now c.args.options.conflicts c.loop-count.invariant.along.pairs c.args.verdicts.now c.loop-count.verdicts c.requires.asks c.loop-count.invariant.along.asks

pub returns : goal.returns
returns c =
    let across = c.args.rules.now.across in
    let rules = c.args.rules.now.all.now in
    let conflicts = c.args.options.conflicts in
    let steps = c.args.options.steps in
    let f = function_of c.loop-count.frontier.draft in
    let made = c.in_ok-made.made in
    let now = c.loop-count.verdicts in
    let after = c.search_last.new.verdicts in
    let all_made : c.loop-count.count ≡ steps = omega (arith, c.loop-count-test.false, c.loop-count.auto.count-end) in
    let along = subst (λ (n : ℕ). Along c.args.options.fold across rules conflicts steps n c.args.f f c.args.verdicts.now now) all_made c.loop-count.invariant.along in
    spent c.args.options.fold across rules conflicts steps made.1.count c.args.f f made.0 c.args.verdicts.now now after made.1.limited along
    (c.in_ok-made.ensures.function ∙ c.in_ok-last-2.ensures) c.in_ok-made.ensures.count
    (subst (λ (h : Function). AsksAll across rules conflicts h IsAnywhere now after made.1.limited) c.in_ok-last-2.ensures c.in_ok-made.ensures.asks)
