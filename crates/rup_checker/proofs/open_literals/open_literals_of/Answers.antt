use Rattle.rup_checker.proofs.Common.{◌+◌, take, sym, ap, ◌∙◌, subst, take_all, same_Some, IsFalsified, IsUnit, is_false, equal_literals, IsSoFar, so_far_false, so_far_open}
use Rattle.rup_checker.proofs.open_literals.open_literals_of.Goals as goal
use Rattle.rup_checker.proofs.open_literals.open_literals_of.Goals.{in_default-via-in-Some+else-ne, in_default-via-in_default}

pub loop-literal-preserved-then-is_false : goal.loop-literal-preserved-then-is_false
loop-literal-preserved-then-is_false c =
    λ held r.
    so_far_false held c.args.clause.now c.loop-literal.literal-index c.literal-item.result c.loop-literal.found c.loop-literal-test.true
    (sym (ap (is_false held) c.literal-item.is) ∙ sym (r.each _) ∙ sym c.is_false.ensures ∙ c.if-is_false.true) (c.loop-literal.invariant held r)

pub loop-literal-preserved : goal.loop-literal-preserved
loop-literal-preserved c =
    λ held r.
    subst (IsUnit held (take (c.loop-literal.literal-index + 1) c.args.clause.now)) (sym c.literal-item.is)
    (so_far_open held c.args.clause.now c.loop-literal.literal-index c.literal-item.result c.loop-literal.found c.loop-literal-test.true
    (sym (ap (is_false held) c.literal-item.is) ∙ sym (r.each _) ∙ sym c.is_false.ensures ∙ c.if-is_false.false)
    (λ l is.
    elim c.in_default.branch [
      | in_default-via-in-Some+else-ne w ↦
          same_Some l w.in-Some.other (sym is ∙ w.in-Some.is) ∙ sym w.in-Some.other-is ∙ equal_literals _ _ w.ne.result w.ne.ensures w.if-ne.false
          ∙ c.literal-item.is
      | in_default-via-in_default w ↦ absurd (w.in_default.not-Some l is)
    ])
    (c.loop-literal.invariant held r))

pub returns-in-None : goal.returns-in-None
returns-in-None c =
    λ held r.
    let clause = c.args.clause.now in
    let place = c.loop-literal.literal-index in
    subst (IsFalsified held) (take_all place clause c.loop-literal-test.false)
    (subst (IsSoFar held (take place clause)) c.in-None.is (c.loop-literal.invariant held r))
