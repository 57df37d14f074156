use Rattle.scan.proofs.Common.{◌-◌, ◌∙◌, length, sym, subst, arith, take_rest, Place, IsGroup, HasNoGroup}
use Rattle.scan.proofs.KeptLemmas.{group_at, no_group_at, group_feeds, group_fits}
use Rattle.scan.proofs.cursor.Cursor.take_group.Goals as goal

pub returns-in_err-rest-clause-none : goal.returns-in_err-rest-clause-none
returns-in_err-rest-clause-none c =
    rw c.from_residual.ensures (subst (λ (p : Place). HasNoGroup p.text p.at) c.self.view_is
    (no_group_at c.self.inside.text.now c.self.inside.at (λ content rest h e. c.in_err-rest.ensures content rest h (take_rest c.self.inside.text.now c.self.inside.at ∙ e))))

pub invariant_of-self : goal.invariant_of-self
invariant_of-self c =
    let e = rw take_rest at c.in_ok-rest.ensures in
    (omega arith, c.self.invariant.1 ∙ sym (group_feeds c.self.inside.text.now c.self.inside.at _ (group_fits c.self.inside.text.now c.self.inside.at e.0 c.in_ok-rest.rest.now c.self.invariant.0 e.2) (group_at c.self.inside.text.now c.self.inside.at e.0 c.in_ok-rest.rest.now c.self.invariant.0 e.1 e.2)))

pub returns-clause-group : goal.returns-clause-group
returns-clause-group c =
    let e = rw take_rest at c.in_ok-rest.ensures in
    subst (λ (p : Place). IsGroup p.text p.at (record { start = c.self.inside.at; end = length c.self.inside.text.now - length c.in_ok-rest.rest.now })) c.self.view_is
    (group_at c.self.inside.text.now c.self.inside.at e.0 c.in_ok-rest.rest.now c.self.invariant.0 e.1 e.2)
