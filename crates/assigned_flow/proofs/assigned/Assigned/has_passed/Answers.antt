use Rattle.assigned_flow.proofs.Common.{◌↔◌, IsTrue, nat_lt, sym, subst, arith, ltb-true, lt-ltb, IsPassed}
use Rattle.dominator_tree.specs.Walks.{IsReached}
use Rattle.assigned_flow.proofs.Passing.{passed_here, passed_elsewhere, passed_within, reached_within}
use Rattle.assigned_flow.proofs.assigned.Assigned.has_passed.Goals as goal

pub returns-then-earlier-block : goal.returns-then-earlier-block
returns-then-earlier-block c =
    let reached = c.has_walk_to.ensures.0 c.if-not-has_walk_to.false in
    let passed = passed_here c.args.self.now c.args.earlier c.args.earlier_place c.args.block c.args.place c.if-earlier-block.true reached in
    (λ yes. passed.0 (ltb-true _ _ yes), λ all. lt-ltb _ _ (passed.1 all))

pub dominates-requires-clause-b : goal.dominates-requires-clause-b
dominates-requires-clause-b c =
    let reached = c.has_walk_to.ensures.0 c.if-not-has_walk_to.false in
    reached_within c.self.inside.dominators c.args.block c.self.invariant.1
    (subst (λ graph. IsReached graph c.args.block) (sym c.self.view_is) reached)

pub returns-then-earlier-self : goal.returns-then-earlier-self
returns-then-earlier-self c =
    let passed = passed_elsewhere c.self.inside.dominators c.args.earlier c.args.earlier_place c.args.block c.args.place c.if-earlier-block.false in
    subst (λ graph. IsTrue c.dominates.result ↔ IsPassed graph c.args.earlier c.args.earlier_place c.args.block c.args.place)
    c.self.view_is (λ yes. passed.0 (c.dominates.ensures.0 yes), λ all. c.dominates.ensures.1 (passed.1 all))

pub returns-else-earlier-self : goal.returns-else-earlier-self
returns-else-earlier-self c =
    let reached = c.has_walk_to.ensures.0 c.if-not-has_walk_to.false in
    let within = passed_within c.self.inside.dominators c.args.earlier c.args.earlier_place c.args.block c.args.place c.self.invariant.1
    (subst (λ graph. IsReached graph c.args.block) (sym c.self.view_is) reached) c.if-earlier-block.false in
    subst (λ graph. IsTrue (nat_lt c.args.earlier c.self.inside.blocks) ↔ IsPassed graph c.args.earlier c.args.earlier_place c.args.block c.args.place)
    c.self.view_is (λ yes. absurd (omega (arith, ltb-true _ _ yes)), λ all. absurd (omega (arith, within all)))
