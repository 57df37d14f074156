use Rattle.circ_muldiv.proofs.Common.{◌≡◌, ◌<◌, ◌-◌, ◌-ℤ◌, not, Bool, length, subst, sym, ◌∙◌, arith, IfOk-weaker, number_of, own_at, fits, whole}
use Rattle.circ_muldiv.proofs.OverflowTests.{number_below, unsigned_difference, difference_changes_sign}
use Rattle.circ_muldiv.proofs.overflow.overflow_sub.Goals as goal

pub returns-in_ok-difference-clause-value : goal.returns-in_ok-difference-clause-value
returns-in_ok-difference-clause-value g c =
    let m = g.C.State in
    let a = c.args.a.now in
    let b = c.args.b.now in
    let keeps = c.sub.ensures.adds.keeps in
    let in_a : length c.args.a.now - 1 < length c.args.a.now = omega arith in
    let in_b : length c.args.b.now - 1 < length c.args.b.now = omega arith in
    let own_x = own_at (m.has_literal c.args.c.now) a (length a - 1) c.sign.result c.requires.own_a in_a c.sign.ensures in
    let own_y = own_at (m.has_literal c.args.c.now) b (length b - 1) c.sign-then-signed.result c.requires.own_b in_b c.sign-then-signed.ensures in
    IfOk-weaker c.differs_from_both.result _ _ (λ overflow known inputs admitted.
    let old = m.value c.args.c.now inputs in
    subst (λ (s : Bool). m.value c.differs_from_both.new.c inputs overflow ≡ not (fits s (length a) (whole s (length a) (number_of old a) -ℤ whole s (length a) (number_of old b)))) (sym c.if-signed.true)
    (known inputs (keeps.admitted inputs admitted) ∙ difference_changes_sign old (m.value c.sub.new.c inputs) a b c.in_ok-difference.difference c.sign.result c.sign-then-signed.result c.sign-then-signed-2.result c.requires.width c.requires.same_width c.in_ok-difference.ensures.width (c.in_ok-difference.ensures.number inputs admitted)
    c.sign.ensures c.sign-then-signed.ensures c.sign-then-signed-2.ensures (keeps.values inputs c.sign.result admitted own_x) (keeps.values inputs c.sign-then-signed.result admitted own_y)))
    c.differs_from_both.ensures.value

pub returns-else-signed-clause-value : goal.returns-else-signed-clause-value
returns-else-signed-clause-value g c =
    let m = g.C.State in
    let a = c.args.a.now in
    let b = c.args.b.now in
    IfOk-weaker c.less_unsigned.result _ _ (λ overflow known inputs admitted.
    let old = m.value c.args.c.now inputs in
    subst (λ (s : Bool). m.value c.less_unsigned.new.c inputs overflow ≡ not (fits s (length a) (whole s (length a) (number_of old a) -ℤ whole s (length a) (number_of old b)))) (sym c.if-signed.false)
    (known inputs admitted ∙ unsigned_difference (length a) (number_of old a) (number_of old b) (number_below old a)))
    c.less_unsigned.ensures.value
