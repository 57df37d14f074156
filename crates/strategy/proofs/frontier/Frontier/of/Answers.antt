use Rattle.strategy.proofs.Common.{sym, subst, AllNeeded, MeetsChecks, arena_of, stands_there, known_by, facts_at}
use Rattle.strategy.proofs.Searching.{unreached_down}
use Rattle.strategy.proofs.frontier.Frontier.of.Goals as goal

pub bits_for-requires-clause-whole : goal.bits_for-requires-clause-whole
bits_for-requires-clause-whole c = c.in_ok-draft.ensures.settled.whole

pub bits_for-requires-clause-checks : goal.bits_for-requires-clause-checks
bits_for-requires-clause-checks c = subst MeetsChecks (sym c.in_ok-draft.ensures.arena) c.requires.checks

pub returns-clause-frontier : goal.returns-clause-frontier
returns-clause-frontier c across table = record {
  draft = c.in_ok-draft.ensures.settled;
  clean = λ b n stands. subst AllNeeded (sym c.in_ok-draft.ensures.arena) c.requires.needed b n (stands_there c.in_ok-draft.draft c.in_ok-draft.ensures.settled.whole b n stands);
  worklist = c.in_ok-all.ensures.worklist;
  depth = c.depth_of.ensures;
  bits = c.in_ok-bits_for.ensures.bits;
  few = c.in_ok-bits_for.ensures.few;
  turned_down = λ b n stands away nowhere.
      unreached_down across c.args.rules.now table (known_by (facts_at c.in_ok-bits_for.field-0 b)) (arena_of c.in_ok-draft.draft) b n (λ reached. away ((c.in_ok-all.ensures.all b n).1 (reached, stands)));
}
