use Rattle.strategy.proofs.Common.{◌*◌, ◌+◌, ◌≤◌, ℕ, length, sym, subst, ◌∙◌, arith, All, MeetsChecks, AllNeeded, Block, Function, function_of, IsCountable}
use Rattle.places.specs.Orders.{none}
use Rattle.strategy.proofs.Cleanness.{drafted_needed}
use Rattle.strategy.proofs.Requeueing.{room_left}
use Rattle.strategy.proofs.frontier.made_anew_where_full.Goals as goal

pub of-requires-clause-checks : goal.of-requires-clause-checks
of-requires-clause-checks c = subst MeetsChecks (sym c.in_ok-f.ensures) c.requires.checks

pub of-requires-clause-needed : goal.of-requires-clause-needed
of-requires-clause-needed c = subst AllNeeded (sym c.in_ok-f.ensures) (drafted_needed c.args.frontier.draft c.requires.settled c.requires.clean)

pub of-requires-clause-blocks : goal.of-requires-clause-blocks
of-requires-clause-blocks c = (subst (IsCountable 0) (sym c.in_ok-f.ensures) c.requires.countable).blocks

pub of-requires-clause-insts : goal.of-requires-clause-insts
of-requires-clause-insts c k x lt = (let few = (subst (IsCountable 0) (sym c.in_ok-f.ensures) c.requires.countable).insts k x lt in omega (arith, few))

pub returns-clause-function : goal.returns-clause-function
returns-clause-function c = c.in_ok-made.ensures.function ∙ c.in_ok-f.ensures

pub returns-clause-frontier : goal.returns-clause-frontier
returns-clause-frontier c across table is = c.in_ok-made.ensures.frontier across table

pub returns-clause-room : goal.returns-clause-room
returns-clause-room c steps room countable =
    subst (λ (a : Function). All (λ (b : Block). length b.insts + 32 * steps ≤ none) a.blocks) (sym (c.in_ok-made.ensures.arena ∙ c.in_ok-f.ensures))
    (room_left steps (function_of c.args.frontier.draft) countable)
