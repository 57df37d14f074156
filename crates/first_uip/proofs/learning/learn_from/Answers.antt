use Rattle.first_uip.proofs.Common.{List, length, take, sym, subst, IsNew, LogFollows, StepFollows, clauses_with, Step, NamesFalse, IsClosed, EachForced, literals, VariablesBelow}
use Rattle.first_uip.proofs.SearchLemmas.{closed_before}
use Rattle.first_uip.proofs.learning.learn_from.Goals as goal

pub analyse-requires-clause-follows : goal.analyse-requires-clause-follows
analyse-requires-clause-follows c =
    subst (LogFollows c.args.cnf.now) (sym c.deref.ensures.value) c.requires.log_learned.follows

pub analyse-requires-clause-forced : goal.analyse-requires-clause-forced
analyse-requires-clause-forced c =
    subst (λ (steps : List Step). EachForced (clauses_with c.args.cnf.now steps) c.args.trail.now.entries.items) (sym c.deref.ensures.value) c.requires.forced

pub analyse-requires-clause-falsified : goal.analyse-requires-clause-falsified
analyse-requires-clause-falsified c =
    subst (λ (steps : List Step). NamesFalse (clauses_with c.args.cnf.now steps) (literals c.args.trail.now.entries.items) c.args.conflict) (sym c.deref.ensures.value) c.requires.falsified

pub analyse-requires-clause-closed : goal.analyse-requires-clause-closed
analyse-requires-clause-closed c =
    let set = c.args.cnf.now in
    let trail = c.args.trail.now in
    let entries = trail.entries.items in
    let start = c.args.start in
    subst (λ (steps : List Step). IsClosed (clauses_with set steps) (literals (take start entries))) (sym c.deref.ensures.value)
    (closed_before (clauses_with set c.args.log.now.items) c.args.watches.now trail.values.items entries start trail.table c.requires.last.decided c.requires.watching)

pub place_after-requires-clause-shown : goal.place_after-requires-clause-shown
place_after-requires-clause-shown c =
    subst (VariablesBelow (length c.args.policy.now.negated.items)) (sym c.deref-2.ensures.value)
    (subst (λ n. VariablesBelow n c.in_ok-learned.shown.items) (sym c.requires.sizes) c.in_ok-learned.ensures.within)

pub learn-requires-clause-follows : goal.learn-requires-clause-follows
learn-requires-clause-follows c =
    subst (λ (steps : List Step). StepFollows c.args.cnf.now (clauses_with c.args.cnf.now steps) c.in_ok-learned.learned.step) c.deref.ensures.value c.in_ok-learned.ensures.follows

pub learn-requires-clause-new : goal.learn-requires-clause-new
learn-requires-clause-new c =
    subst (λ (steps : List Step). IsNew (clauses_with c.args.cnf.now steps) c.in_ok-learned.learned.step.clause) c.deref.ensures.value c.in_ok-learned.ensures.new

pub returns-clause-state : goal.returns-clause-state
returns-clause-state c =
    record { learned = c.in_ok-learn.ensures.log_learned; forced = c.in_ok-learn.ensures.forced; watching = c.in_ok-learn.ensures.watching }
