use Rattle.depth_first.proofs.Common.{sym, subst, arith, IsUnit, all_clauses, Entry, Reason, literals, IsPropagated, PropagatesClause}
use Rattle.depth_first.proofs.Sets.{clause_within}
use Rattle.depth_first.proofs.StatusLemmas.{forced_variable}
use Rattle.depth_first.proofs.PropagationLemmas.{PropagatesClause-forced, PropagatesClause-propagated}
use Rattle.depth_first.proofs.propagation.propagate_clause.Goals as goal

pub push-requires-clause-first : goal.push-requires-clause-first
push-requires-clause-first c =
    let set = c.args.cnf.now in
    let clause = c.clause.result.now in
    let unit : IsUnit (literals c.args.trail.now.entries.items) clause c.in-Forces.literal =
    subst (λ ls. IsUnit (literals c.args.trail.now.entries.items) ls c.in-Forces.literal) c.as_slice.ensures c.in-Forces.ensures.0 in
    (forced_variable set.count _ clause c.in-Forces.literal (clause_within set c.args.number clause c.clause.ensures) unit).0

pub push-requires-clause-last : goal.push-requires-clause-last
push-requires-clause-last c =
    let set = c.args.cnf.now in
    let clause = c.clause.result.now in
    let unit : IsUnit (literals c.args.trail.now.entries.items) clause c.in-Forces.literal =
    subst (λ ls. IsUnit (literals c.args.trail.now.entries.items) ls c.in-Forces.literal) c.as_slice.ensures c.in-Forces.ensures.0 in
    let within = forced_variable set.count _ clause c.in-Forces.literal (clause_within set c.args.number clause c.clause.ensures) unit in
    omega (arith, within.1, c.requires.variables)

pub returns-in_ok-push-in-Forces-clause-propagates : goal.returns-in_ok-push-in-Forces-clause-propagates
returns-in_ok-push-in-Forces-clause-propagates c =
    let cs = all_clauses c.args.cnf.now in
    let entries = c.args.trail.now.entries.items in
    let clause = c.clause.result.now in
    let e : Entry = record { literal = c.in-Forces.literal; cause = Reason c.args.number } in
    let unit : IsUnit (literals entries) clause c.in-Forces.literal =
    subst (λ ls. IsUnit (literals entries) ls c.in-Forces.literal) c.as_slice.ensures c.in-Forces.ensures.0 in
    subst (λ es. PropagatesClause cs c.args.number entries es) (sym c.in_ok-push-in-Forces.ensures.ok)
    (PropagatesClause-forced cs c.args.number entries e clause c.clause.ensures unit)

pub returns-in-Propagated-clause-propagates : goal.returns-in-Propagated-clause-propagates
returns-in-Propagated-clause-propagates c =
    let entries = c.args.trail.now.entries.items in
    let clause = c.clause.result.now in
    PropagatesClause-propagated (all_clauses c.args.cnf.now) c.args.number entries clause c.clause.ensures
    (subst (IsPropagated (literals entries)) c.as_slice.ensures c.in-Propagated.ensures)
