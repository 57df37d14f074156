use Rattle.circ_muldiv.proofs.Common.{◌≡◌, ◌≤◌, ◌+◌, length, [], ◌∷◌, ◌++◌, sym, ap, subst, ◌∙◌, arith, All, length_push, All-push, adder_gates, Adds-refl, Adds-weaken}
use Rattle.circ_muldiv.proofs.Quotients.{both_ok, taken}
use Rattle.circ_muldiv.proofs.division.difference.Goals as goal

pub returns-clause-fits : goal.returns-clause-fits
returns-clause-fits g c =
    let m = g.C.State in
    let complement_is : c.as_slice.result.now ≡ c.in_ok-complement.complement ++ c.one.result ∷ [] = c.as_slice.ensures ∙ c.in_ok-push.ensures.ok in
    both_ok c.add_with_carry.result _ _ _ (λ less width total inputs admitted.
    (taken (m.value c.args.c.now inputs) (m.value c.add_with_carry.new.c inputs) c.args.longer.now c.args.divisor.now c.in_ok-complement.complement less.bits c.one.result less.carry c.one-first.result c.in_ok-complement.ensures.width (width ∙ c.requires.width) (c.in_ok-complement.ensures.values inputs admitted) (c.one.ensures.value inputs admitted) (c.one-first.ensures.value inputs admitted)
    (rw (complement_is, c.requires.width) at (total inputs admitted))).0)
    c.add_with_carry.ensures.width c.add_with_carry.ensures.number

pub returns-clause-left : goal.returns-clause-left
returns-clause-left g c =
    let m = g.C.State in
    let complement_is : c.as_slice.result.now ≡ c.in_ok-complement.complement ++ c.one.result ∷ [] = c.as_slice.ensures ∙ c.in_ok-push.ensures.ok in
    both_ok c.add_with_carry.result _ _ _ (λ less width total inputs admitted.
    (taken (m.value c.args.c.now inputs) (m.value c.add_with_carry.new.c inputs) c.args.longer.now c.args.divisor.now c.in_ok-complement.complement less.bits c.one.result less.carry c.one-first.result c.in_ok-complement.ensures.width (width ∙ c.requires.width) (c.in_ok-complement.ensures.values inputs admitted) (c.one.ensures.value inputs admitted) (c.one-first.ensures.value inputs admitted)
    (rw (complement_is, c.requires.width) at (total inputs admitted))).1)
    c.add_with_carry.ensures.width c.add_with_carry.ensures.number

pub returns-in_err-complement-clause-adds : goal.returns-in_err-complement-clause-adds
returns-in_err-complement-clause-adds g c = Adds-weaken Adds-refl (omega arith)

pub returns-in_err-push-clause-adds : goal.returns-in_err-push-clause-adds
returns-in_err-push-clause-adds g c = Adds-weaken Adds-refl (omega arith)

pub returns-clause-adds : goal.returns-clause-adds
returns-clause-adds g c =
    let few : adder_gates (length c.args.longer.now) ≤ adder_gates (length c.args.divisor.now + 1) = rw c.requires.width (omega arith) in
    Adds-weaken c.add_with_carry.ensures.adds few

pub add_with_carry-requires-clause-same_width : goal.add_with_carry-requires-clause-same_width
add_with_carry-requires-clause-same_width g c =
    let longer : length c.as_slice.result.now ≡ length c.in_ok-complement.complement + 1 = ap length (c.as_slice.ensures ∙ c.in_ok-push.ensures.ok) ∙ length_push c.in_ok-complement.complement c.one.result in
    longer ∙ ap (λ n. n + 1) c.in_ok-complement.ensures.width ∙ sym c.requires.width

pub add_with_carry-requires-clause-own_b : goal.add_with_carry-requires-clause-own_b
add_with_carry-requires-clause-own_b g c =
    let P = g.C.State.has_literal c.args.c.now in
    subst (All P) (sym (c.as_slice.ensures ∙ c.in_ok-push.ensures.ok)) (All-push P c.in_ok-complement.complement c.one.result c.in_ok-complement.ensures.own c.one.ensures.own)
