use Rattle.first_uip.proofs.Common.{[], refl, all_clauses, EachCaused-start, no_decisions, IfNone_is, IsWatchingUpTo}
use Rattle.first_uip.proofs.learning.search_in.Goals as goal

pub refutation-requires-clause-caused : goal.refutation-requires-clause-caused
refutation-requires-clause-caused c =
    EachCaused-start c.args.cnf.now c.new-log.result.items [] c.add_clauses.new.trail.entries.items c.new-log.ensures.items refl c.add_clauses.ensures.grown

pub refutation-requires-clause-no_decisions : goal.refutation-requires-clause-no_decisions
refutation-requires-clause-no_decisions c =
    no_decisions (all_clauses c.args.cnf.now) [] c.add_clauses.new.trail.entries.items refl c.add_clauses.ensures.grown

pub decide_and_learn-requires-clause-watching : goal.decide_and_learn-requires-clause-watching
decide_and_learn-requires-clause-watching c =
    let set = c.args.cnf.now in
    let watches = c.add_clauses.new.watches in
    let entries = c.add_clauses.new.trail.entries.items in
    IfNone_is c.in_ok-conflict.field-0 (IsWatchingUpTo (all_clauses set) watches entries 0) c.in_default.is c.in_ok-conflict.ensures.watching
