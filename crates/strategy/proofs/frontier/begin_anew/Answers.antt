use Rattle.strategy.proofs.Common.{true, ℕ, ◌*◌, ◌+◌, ◌≤◌, length, sym, subst, arith, All, MeetsChecks, NumbersFit, Block, Function, function_of, IsFolded, IsTidied}
use Rattle.places.specs.Orders.{none}
use Rattle.strategy.proofs.Requeueing.{room_left}
use Rattle.strategy.proofs.frontier.begin_anew.Goals as goal

pub rewritten_at-requires-clause-matches : goal.rewritten_at-requires-clause-matches
rewritten_at-requires-clause-matches c = (c.args.rules.now.across, c.requires.matches)

pub tidy_checked-requires-clause-countable : goal.tidy_checked-requires-clause-countable
tidy_checked-requires-clause-countable c = c.in_ok-f.ensures.countable 0 c.requires.countable

pub of-requires-clause-blocks : goal.of-requires-clause-blocks
of-requires-clause-blocks c = (c.in_ok-tidy_checked.ensures.countable 0 (c.in_ok-f.ensures.countable 0 c.requires.countable)).blocks

pub of-requires-clause-insts : goal.of-requires-clause-insts
of-requires-clause-insts c k x lt =
    let few = (c.in_ok-tidy_checked.ensures.countable 0 (c.in_ok-f.ensures.countable 0 c.requires.countable)).insts k x lt in
    omega (arith, few)

pub returns-clause-stepped : goal.returns-clause-stepped
returns-clause-stepped c =
    (c.in_ok-f.f, subst (IsTidied true c.in_ok-f.f) (sym c.in_ok-made.ensures.function) c.in_ok-tidy_checked.ensures.tidied, c.in_ok-f.ensures.rewritten)

pub returns-clause-frontier : goal.returns-clause-frontier
returns-clause-frontier c table = c.in_ok-made.ensures.frontier c.args.rules.now.across table

pub returns-clause-checks : goal.returns-clause-checks
returns-clause-checks c = subst MeetsChecks (sym c.in_ok-made.ensures.function) c.in_ok-tidy_checked.ensures.checks

pub returns-clause-numbers : goal.returns-clause-numbers
returns-clause-numbers c = subst NumbersFit (sym c.in_ok-made.ensures.function) c.in_ok-tidy_checked.ensures.numbers

pub returns-clause-folded : goal.returns-clause-folded
returns-clause-folded c = subst (λ (f : Function). IsFolded f f) (sym c.in_ok-made.ensures.function) c.in_ok-tidy_checked.ensures.folded

pub returns-clause-room : goal.returns-clause-room
returns-clause-room c steps countable =
    subst (λ (a : Function). All (λ (b : Block). length b.insts + 32 * steps ≤ none) a.blocks) (sym c.in_ok-made.ensures.arena)
    (room_left steps c.tidy_checked.new.f (c.in_ok-tidy_checked.ensures.countable steps (c.in_ok-f.ensures.countable steps countable)))
