use Rattle.depth_first.proofs.Common.{subst, all_clauses, Grows, IsPropagatedUpTo}
use Rattle.depth_first.proofs.SearchSteps.{EachCaused-start, no_decisions, IfNone_is}
use Rattle.depth_first.proofs.depth_first.search_in.Goals as goal

pub refutation-requires-clause-no_decisions : goal.refutation-requires-clause-no_decisions
refutation-requires-clause-no_decisions c =
    no_decisions (all_clauses c.args.cnf.now) c.args.trail.now.entries.items c.propagate_all_clauses.new.trail.entries.items c.requires.empty c.in_ok-conflict.ensures.grows

pub refutation-requires-clause-caused : goal.refutation-requires-clause-caused
refutation-requires-clause-caused c =
    EachCaused-start c.args.cnf.now c.new-log.result.items c.args.trail.now.entries.items c.propagate_all_clauses.new.trail.entries.items c.new-log.ensures.items c.requires.empty c.in_ok-conflict.ensures.grows

pub decide_and_flip-requires-clause-grown : goal.decide_and_flip-requires-clause-grown
decide_and_flip-requires-clause-grown c =
    subst (λ es. Grows (all_clauses c.args.cnf.now) es c.propagate_all_clauses.new.trail.entries.items) c.requires.empty c.in_ok-conflict.ensures.grows

pub decide_and_flip-requires-clause-up_to_head : goal.decide_and_flip-requires-clause-up_to_head
decide_and_flip-requires-clause-up_to_head c =
    IfNone_is c.in_ok-conflict.field-0 (IsPropagatedUpTo (all_clauses c.args.cnf.now) c.propagate_all_clauses.new.trail.entries.items 0) c.in_default.is c.in_ok-conflict.ensures.up_to_head
