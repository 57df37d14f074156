use Rattle.strategy.proofs.Common.{ℕ, Some, None, suc, true, sym, subst, arith, slice_get_within, MeetsChecks, NumbersFit, Function, HasNothingToFold, IsCountable, IsSteppedAt, StepsOrEnds, function_of, members_of, placed_match, SearchesTo}
use Rattle.strategy.proofs.Requeueing.{room_for_fewer}
use Rattle.strategy.proofs.Stepping.{search_ended, step_countable, step_made}
use Rattle.strategy.specs.declared.frontier.Frontier.{Frontier}
use Rattle.strategy.proofs.frontier.step.Goals as goal
use Rattle.strategy.proofs.frontier.step.Goals.{In-Some, In_default}

-- a match was found; and below, none was
found : (c : In-Some) → SearchesTo c.args.rules.now.across c.args.rules.now.all.now c.args.options.conflicts c.args.frontier.draft c.args.frontier.bits (members_of c.next_admitted.new.worklist) c.args.verdicts.now c.next_admitted.new.verdicts (Some c.in-Some.chosen)
found c = subst (SearchesTo c.args.rules.now.across c.args.rules.now.all.now c.args.options.conflicts c.args.frontier.draft c.args.frontier.bits (members_of c.next_admitted.new.worklist) c.args.verdicts.now c.next_admitted.new.verdicts) c.in-Some.is c.in_ok-found.ensures.found

none_found : (c : In_default) → SearchesTo c.args.rules.now.across c.args.rules.now.all.now c.args.options.conflicts c.args.frontier.draft c.args.frontier.bits (members_of c.next_admitted.new.worklist) c.args.verdicts.now c.next_admitted.new.verdicts None
none_found c = subst (SearchesTo c.args.rules.now.across c.args.rules.now.all.now c.args.options.conflicts c.args.frontier.draft c.args.frontier.bits (members_of c.next_admitted.new.worklist) c.args.verdicts.now c.next_admitted.new.verdicts) c.in_default.is c.in_ok-found.ensures.found

pub returns-in_default-clause-steps : goal.returns-in_default-clause-steps
returns-in_default-clause-steps c =
    search_ended c.args.options.fold c.args.rules.now.across c.args.rules.now.all.now c.args.options.conflicts (function_of c.args.frontier.draft) c.args.verdicts.now c.next_admitted.new.verdicts
    (none_found (goal.at.returns-in_default-clause-steps c).In_default).0

pub returns-in_default-clause-frontier : goal.returns-in_default-clause-frontier
returns-in_default-clause-frontier c = record {
  draft = c.requires.frontier.draft;
  clean = c.requires.frontier.clean;
  worklist = c.in_ok-found.ensures.worklist;
  depth = c.requires.frontier.depth;
  bits = c.requires.frontier.bits;
  few = c.requires.frontier.few;
  turned_down = (none_found (goal.at.returns-in_default-clause-frontier c).In_default).1;
}

pub returns-in_default-clause-room : goal.returns-in_default-clause-room
returns-in_default-clause-room c steps room countable = room_for_fewer (suc steps) steps c.args.frontier.draft (omega arith) room

pub bounds-rules-chosen : goal.bounds-rules-chosen
bounds-rules-chosen c =
    let first = (found (goal.at.bounds-rules-chosen c).In-Some).0 in
    slice_get_within c.args.rules.now.all.now c.in-Some.chosen.rule first.is_match.rule first.is_match.is_rule

pub rewrite_at-requires-clause-matches : goal.rewrite_at-requires-clause-matches
rewrite_at-requires-clause-matches c = (found (goal.at.rewrite_at-requires-clause-matches c).In-Some).0.is_match

-- the rewrite is a step, and leaves numbers for the next ones
stepped : (c : In-Some) (next : Frontier) → IsSteppedAt c.args.options.fold c.args.rules.now.all.now c.args.frontier.draft next.draft c.in-Some.chosen
    → StepsOrEnds c.args.options.fold c.args.rules.now.across c.args.rules.now.all.now c.args.options.conflicts (function_of c.args.frontier.draft) (function_of next.draft) c.args.verdicts.now c.next_admitted.new.verdicts true
stepped c next made =
    let first = (found c).0 in
    step_made c.args.options.fold c.args.rules.now.across c.args.rules.now.all.now c.args.options.conflicts (function_of c.args.frontier.draft) made.0 (function_of next.draft)
    (placed_match c.args.frontier.draft c.in-Some.chosen) c.args.verdicts.now c.next_admitted.new.verdicts first (made.2 first.is_match.rule first.is_match.is_rule) made.1

countable : (c : In-Some) (next : Frontier) → IsSteppedAt c.args.options.fold c.args.rules.now.all.now c.args.frontier.draft next.draft c.in-Some.chosen
    → (steps : ℕ) → IsCountable (suc steps) (function_of c.args.frontier.draft) → IsCountable steps (function_of next.draft)
countable c next made steps before =
    let step = stepped c next made in
    step_countable c.args.options.fold c.args.rules.now.across c.args.rules.now.all.now c.args.options.conflicts steps (function_of c.args.frontier.draft) (function_of next.draft) c.next_admitted.new.verdicts.table step.0 c.requires.asks.ready step.2 before

pub made_anew_where_full-requires-clause-settled : goal.made_anew_where_full-requires-clause-settled
made_anew_where_full-requires-clause-settled c =
    (c.in_ok-rewritten.ensures.frontier c.next_admitted.new.verdicts.table (found (goal.at.made_anew_where_full-requires-clause-settled c).In-Some).1).draft

pub made_anew_where_full-requires-clause-clean : goal.made_anew_where_full-requires-clause-clean
made_anew_where_full-requires-clause-clean c =
    (c.in_ok-rewritten.ensures.frontier c.next_admitted.new.verdicts.table (found (goal.at.made_anew_where_full-requires-clause-clean c).In-Some).1).clean

pub made_anew_where_full-requires-clause-countable : goal.made_anew_where_full-requires-clause-countable
made_anew_where_full-requires-clause-countable c =
    countable (goal.at.made_anew_where_full-requires-clause-countable c).In-Some c.in_ok-rewritten.rewritten c.in_ok-rewritten.ensures.stepped 0 c.requires.countable

pub returns-clause-steps : goal.returns-clause-steps
returns-clause-steps c =
    subst (λ (f : Function). StepsOrEnds c.args.options.fold c.args.rules.now.across c.args.rules.now.all.now c.args.options.conflicts (function_of c.args.frontier.draft) f c.args.verdicts.now c.next_admitted.new.verdicts true)
    (sym c.in_ok-next.ensures.function) (stepped (goal.at.returns-clause-steps c).In-Some c.in_ok-rewritten.rewritten c.in_ok-rewritten.ensures.stepped)

pub returns-clause-frontier : goal.returns-clause-frontier
returns-clause-frontier c =
    c.in_ok-next.ensures.frontier c.args.rules.now.across c.next_admitted.new.verdicts.table
    (c.in_ok-rewritten.ensures.frontier c.next_admitted.new.verdicts.table (found (goal.at.returns-clause-frontier c).In-Some).1)

pub returns-clause-checks : goal.returns-clause-checks
returns-clause-checks c = subst MeetsChecks (sym c.in_ok-next.ensures.function) c.in_ok-rewritten.ensures.checks

pub returns-clause-numbers : goal.returns-clause-numbers
returns-clause-numbers c = subst NumbersFit (sym c.in_ok-next.ensures.function) c.in_ok-rewritten.ensures.numbers

pub returns-clause-folded : goal.returns-clause-folded
returns-clause-folded c = subst (HasNothingToFold c.args.options.fold) (sym c.in_ok-next.ensures.function) c.in_ok-rewritten.ensures.folded

pub returns-clause-room : goal.returns-clause-room
returns-clause-room c steps room before =
    c.in_ok-next.ensures.room steps (c.in_ok-rewritten.ensures.room steps room before)
    (countable (goal.at.returns-clause-room c).In-Some c.in_ok-rewritten.rewritten c.in_ok-rewritten.ensures.stepped steps before)
