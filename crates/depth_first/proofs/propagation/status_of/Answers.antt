use Rattle.depth_first.proofs.Common.{◌≡◌, ◌+◌, false, Some, take, get_or, sym, ap, ◌∙◌, subst, take_all, same_Some, Lit, IsFalsified, IsUnit, is_held, is_false, equal_literals, IsSoFar, so_far_false, so_far_open, literals, IsOpen}
use Rattle.depth_first.proofs.TrailTable.{Consistent-from_table}
use Rattle.depth_first.proofs.HeldLists.{open_from}
use Rattle.depth_first.proofs.StatusLemmas.{propagated_by_held}
use Rattle.depth_first.proofs.propagation.status_of.Goals as goal
use Rattle.depth_first.proofs.propagation.status_of.Goals.{in_default-via-in-Some+else-ne, in_default-via-in_default}

pub returns-then-holds : goal.returns-then-holds
returns-then-holds c =
    let trail = c.args.trail.now in
    propagated_by_held (literals trail.entries.items) c.args.clause.now c.loop-literal.literal-index c.literal-item.result c.holds.result
    (Consistent-from_table trail.values.items trail.entries.items trail.table) c.loop-literal-test.true
    (c.holds.ensures ∙ ap (is_held (literals trail.entries.items)) c.literal-item.is) c.if-holds.true

pub loop-literal-preserved-then-holds-2 : goal.loop-literal-preserved-then-holds-2
loop-literal-preserved-then-holds-2 c =
    let held = literals c.args.trail.now.entries.items in
    record {
      so_far =
          so_far_false held c.args.clause.now c.loop-literal.literal-index c.literal-item.result c.loop-literal.open c.loop-literal-test.true
          (sym (ap (is_false held) c.literal-item.is) ∙ sym (ap (is_held held) c.negation.ensures) ∙ sym c.holds-in-loop-literal.ensures ∙ c.if-holds-2.true) c.loop-literal.invariant.so_far;
      is_open = c.loop-literal.invariant.is_open;
    }

pub loop-literal-preserved : goal.loop-literal-preserved
loop-literal-preserved c =
    let held = literals c.args.trail.now.entries.items in
    let clause = c.args.clause.now in
    let place = c.loop-literal.literal-index in
    let x : Lit = get_or clause place c.literal-item.result in
    let read : c.literal-item.result ≡ x = c.literal-item.is in
    let kept : is_false held x ≡ false =
    sym (ap (is_false held) read) ∙ sym (ap (is_held held) c.negation.ensures) ∙ sym c.holds-in-loop-literal.ensures ∙ c.if-holds-2.false in
    let unset : IsOpen held x.variable = open_from held x (sym (ap (is_held held) read) ∙ sym c.holds.ensures ∙ c.if-holds.false) kept in
    let now : ((l : Lit) → c.loop-literal.open ≡ Some l → l ≡ x) → IsUnit held (take (place + 1) clause) x =
    λ same. so_far_open held clause place c.literal-item.result c.loop-literal.open c.loop-literal-test.true kept same c.loop-literal.invariant.so_far in
    record {
      so_far =
          subst (IsUnit held (take (place + 1) clause)) (sym read)
          (now (λ l is.
          elim c.in_default.branch [
            | in_default-via-in-Some+else-ne w ↦
                same_Some l w.in-Some.other (sym is ∙ w.in-Some.is) ∙ sym w.in-Some.other-is ∙ equal_literals _ _ w.ne.result w.ne.ensures w.if-ne.false ∙ read
            | in_default-via-in_default w ↦ absurd (w.in_default.not-Some l is)
          ]));
      is_open = subst (λ (l : Lit). IsOpen held l.variable) (sym read) unset;
    }

pub returns-in-None : goal.returns-in-None
returns-in-None c =
    let held = literals c.args.trail.now.entries.items in
    let clause = c.args.clause.now in
    let place = c.loop-literal.literal-index in
    subst (IsFalsified held) (take_all place clause c.loop-literal-test.false)
    (subst (IsSoFar held (take place clause)) c.in-None.is c.loop-literal.invariant.so_far)
