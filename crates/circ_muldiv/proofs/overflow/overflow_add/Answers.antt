use Rattle.circ_muldiv.proofs.Common.{◌≡◌, ◌<◌, ◌-◌, ◌+ℤ◌, not, Bool, length, subst, sym, ap, ◌∙◌, arith, All, IfOk-weaker, number_of, own_at, Adds-trans, Adds-weaken, fits, whole}
use Rattle.circ_muldiv.proofs.OverflowTests.{sum_carries, sum_changes_sign}
use Rattle.circ_muldiv.proofs.overflow.overflow_add.Goals as goal

pub returns-then-signed-clause-value : goal.returns-then-signed-clause-value
returns-then-signed-clause-value g c =
    let m = g.C.State in
    let a = c.args.a.now in
    let b = c.args.b.now in
    let keeps = c.add_with_carry.ensures.adds.keeps in
    let in_a : length c.args.a.now - 1 < length c.args.a.now = omega arith in
    let in_b : length c.args.b.now - 1 < length c.args.b.now = omega arith in
    let own_x = own_at (m.has_literal c.args.c.now) a (length a - 1) c.sign-then-signed.result c.requires.own_a in_a c.sign-then-signed.ensures in
    let own_y = own_at (m.has_literal c.args.c.now) b (length b - 1) c.sign-then-signed-2.result c.requires.own_b in_b c.sign-then-signed-2.ensures in
    IfOk-weaker c.differs_from_both.result _ _ (λ overflow known inputs admitted.
    let old = m.value c.args.c.now inputs in
    subst (λ (s : Bool). m.value c.differs_from_both.new.c inputs overflow ≡ not (fits s (length a) (whole s (length a) (number_of old a) +ℤ whole s (length a) (number_of old b)))) (sym c.if-signed.true)
    (known inputs (keeps.admitted inputs admitted) ∙ sum_changes_sign old (m.value c.add_with_carry.new.c inputs) a b c.in_ok-sum.sum.bits c.in_ok-sum.sum.carry c.zero-first.result c.sign-then-signed.result c.sign-then-signed-2.result c.sign.result c.requires.width c.requires.same_width
    (rw c.as_slice.ensures at c.in_ok-sum.ensures.width) (rw (c.as_slice.ensures, c.as_slice-2.ensures) at (c.in_ok-sum.ensures.number inputs admitted)) (c.zero-first.ensures.value inputs admitted)
    c.sign-then-signed.ensures c.sign-then-signed-2.ensures c.sign.ensures (keeps.values inputs c.sign-then-signed.result admitted own_x) (keeps.values inputs c.sign-then-signed-2.result admitted own_y)))
    c.differs_from_both.ensures.value

pub returns-clause-value : goal.returns-clause-value
returns-clause-value g c inputs admitted =
    let m = g.C.State in
    let a = c.args.a.now in
    let b = c.args.b.now in
    let old = m.value c.args.c.now inputs in
    let new = m.value c.add_with_carry.new.c inputs in
    subst (λ (s : Bool). new c.in_ok-sum.sum.carry ≡ not (fits s (length a) (whole s (length a) (number_of old a) +ℤ whole s (length a) (number_of old b)))) (sym c.if-signed.false)
    (sum_carries old new a b c.in_ok-sum.sum.bits c.in_ok-sum.sum.carry c.zero-first.result (rw c.as_slice.ensures at c.in_ok-sum.ensures.width) (rw (c.as_slice.ensures, c.as_slice-2.ensures) at (c.in_ok-sum.ensures.number inputs admitted)) (c.zero-first.ensures.value inputs admitted))

pub add_with_carry-requires-clause-same_width : goal.add_with_carry-requires-clause-same_width
add_with_carry-requires-clause-same_width g c = ap length c.as_slice-2.ensures ∙ c.requires.same_width ∙ sym (ap length c.as_slice.ensures)

pub add_with_carry-requires-clause-own_a : goal.add_with_carry-requires-clause-own_a
add_with_carry-requires-clause-own_a g c = subst (All (g.C.State.has_literal c.args.c.now)) (sym c.as_slice.ensures) c.requires.own_a

pub add_with_carry-requires-clause-own_b : goal.add_with_carry-requires-clause-own_b
add_with_carry-requires-clause-own_b g c = subst (All (g.C.State.has_literal c.args.c.now)) (sym c.as_slice-2.ensures) c.requires.own_b

pub differs_from_both-requires-clause-own_x : goal.differs_from_both-requires-clause-own_x
differs_from_both-requires-clause-own_x g c =
    let bits = c.in_ok-sum.sum.bits in
    let inside : length c.in_ok-sum.sum.bits - 1 < length c.in_ok-sum.sum.bits = omega (arith, c.in_ok-sum.ensures.width, ap length c.as_slice.ensures) in
    own_at (g.C.State.has_literal c.add_with_carry.new.c) bits (length bits - 1) c.sign.result c.in_ok-sum.ensures.own_bits inside c.sign.ensures

pub differs_from_both-requires-clause-own_y : goal.differs_from_both-requires-clause-own_y
differs_from_both-requires-clause-own_y g c =
    let inside : length c.args.a.now - 1 < length c.args.a.now = omega arith in
    c.add_with_carry.ensures.adds.keeps.literals c.sign-then-signed.result
    (own_at (g.C.State.has_literal c.args.c.now) c.args.a.now (length c.args.a.now - 1) c.sign-then-signed.result c.requires.own_a inside c.sign-then-signed.ensures)

pub differs_from_both-requires-clause-own_z : goal.differs_from_both-requires-clause-own_z
differs_from_both-requires-clause-own_z g c =
    let inside : length c.args.b.now - 1 < length c.args.b.now = omega arith in
    c.add_with_carry.ensures.adds.keeps.literals c.sign-then-signed-2.result
    (own_at (g.C.State.has_literal c.args.c.now) c.args.b.now (length c.args.b.now - 1) c.sign-then-signed-2.result c.requires.own_b inside c.sign-then-signed-2.ensures)

pub returns-in_err-sum-clause-adds : goal.returns-in_err-sum-clause-adds
returns-in_err-sum-clause-adds g c = Adds-weaken c.add_with_carry.ensures.adds (omega (arith, ap length c.as_slice.ensures))

pub returns-then-signed-clause-adds : goal.returns-then-signed-clause-adds
returns-then-signed-clause-adds g c = Adds-weaken (Adds-trans c.add_with_carry.ensures.adds c.differs_from_both.ensures.adds) (omega (arith, ap length c.as_slice.ensures))

pub returns-clause-adds : goal.returns-clause-adds
returns-clause-adds g c = Adds-weaken c.add_with_carry.ensures.adds (omega (arith, ap length c.as_slice.ensures))
