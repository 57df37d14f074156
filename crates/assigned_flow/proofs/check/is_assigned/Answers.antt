use Rattle.assigned_flow.proofs.Common.{◌<◌, sym, subst}
use Rattle.assigned_flow.proofs.Correspondence.{assigned_result, HasInst-below_end}
use Rattle.assigned_flow.proofs.check.is_assigned.Goals as goal

pub returns-then-earlier_place-end_of : goal.returns-then-earlier_place-end_of
returns-then-earlier_place-end_of c =
    let below = subst (λ n. c.in-Result.earlier_place < n) c.end_of.ensures c.if-earlier_place-end_of.true in
    assigned_result c.args.f.now c.args.assigned.now c.args.register c.in-Result.earlier c.in-Result.earlier_place c.args.block c.args.place c.has_passed.result
    (sym c.requires.graph) c.in-Result.is (HasInst-below_end c.args.f.now c.in-Result.earlier c.in-Result.earlier_place below) c.has_passed.ensures
