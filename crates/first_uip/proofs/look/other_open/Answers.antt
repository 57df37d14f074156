use Rattle.first_uip.proofs.Common.{◌≡◌, true, sym, ap, ◌∙◌, subst, arith, All, ◌≢◌, take_all, All-more, Lit, is_held, is_false, equal_literals, literals}
use Rattle.first_uip.proofs.look.other_open.Goals as goal
use Rattle.first_uip.proofs.look.other_open.Goals.{else-ne-via-then-ne+else-not-holds, else-ne-via-else-ne}

pub loop-literal-preserved : goal.loop-literal-preserved
loop-literal-preserved c =
    let held = literals c.args.trail.now.entries.items in
    let clause = c.args.clause.now in
    let k = c.loop-literal.literal-index in
    elim c.else-ne.branch [
      | else-ne-via-then-ne+else-not-holds w ↦
          All-more (λ (m : Lit). m ≢ c.args.other → is_false held m ≡ true) clause k c.literal-item.result c.loop-literal-test.true c.loop-literal.invariant
          (λ other. sym (ap (is_false held) c.literal-item.is) ∙ sym (ap (is_held held) w.negation.ensures) ∙ sym w.holds.ensures ∙ w.if-not-holds.false)
      | else-ne-via-else-ne w ↦
          All-more (λ (m : Lit). m ≢ c.args.other → is_false held m ≡ true) clause k c.literal-item.result c.loop-literal-test.true c.loop-literal.invariant
          (λ other. absurd (other (sym c.literal-item.is ∙ equal_literals _ _ c.ne.result c.ne.ensures w.if-ne.false)))
    ]

pub returns-clause-none : goal.returns-clause-none
returns-clause-none c =
    let held = literals c.args.trail.now.entries.items in
    let clause = c.args.clause.now in
    subst (All (λ (m : Lit). m ≢ c.args.other → is_false held m ≡ true)) (take_all c.loop-literal.literal-index clause (omega (arith, c.loop-literal-test.false))) c.loop-literal.invariant
