use Rattle.circuits.proofs.Common.{length, map, true, sym, ap, subst, ◌∙◌, arith, All, length-map, certain, known_sum, number_of}
use Rattle.circuits.proofs.Kept.{Adds-none, Adds-weaken}
use Rattle.circuits.proofs.Words.{number-sub, sum_remainder}
use Rattle.circuits.proofs.arithmetic.sub.Goals as goal

pub returns-clause-number : goal.returns-clause-number
returns-clause-number g c inputs admitted =
    let value = g.C.State.value c.args.c.now inputs in
    number-sub (length c.args.a.now) (number_of value c.args.a.now) _ (map value c.args.b.now) (map value c.in_ok-complement.complement) (value c.one-first.result)
    (rw c.as_slice.ensures at (c.in_ok-complement.ensures.values inputs admitted))
    (c.one-first.ensures.value inputs admitted)
    (length-map c.args.b.now value ∙ c.requires.same_width)
    (sum_remainder _ (length c.args.a.now) _ _ (length-map c.in_ok-sum.sum.bits (g.C.State.value c.add_with_carry.new.c inputs) ∙ c.in_ok-sum.ensures.width ∙ ap length c.as_slice-2.ensures)
    (rw (c.as_slice-2.ensures, c.as_slice-3.ensures) at (c.in_ok-sum.ensures.number inputs admitted)))

pub inverted-requires : goal.inverted-requires
inverted-requires g c = subst (All (g.C.State.has_literal c.args.c.now)) (sym c.as_slice.ensures) c.requires.own_b

pub add_with_carry-requires-clause-same_width : goal.add_with_carry-requires-clause-same_width
add_with_carry-requires-clause-same_width g c =
    ap length c.as_slice-3.ensures ∙ c.in_ok-complement.ensures.width ∙ ap length c.as_slice.ensures ∙ c.requires.same_width ∙ sym (ap length c.as_slice-2.ensures)

pub add_with_carry-requires-clause-own_a : goal.add_with_carry-requires-clause-own_a
add_with_carry-requires-clause-own_a g c = subst (All (g.C.State.has_literal c.args.c.now)) (sym c.as_slice-2.ensures) c.requires.own_a

pub add_with_carry-requires-clause-own_b : goal.add_with_carry-requires-clause-own_b
add_with_carry-requires-clause-own_b g c = subst (All (g.C.State.has_literal c.args.c.now)) (sym c.as_slice-3.ensures) c.in_ok-complement.ensures.own

pub returns-in_err-complement-clause-adds : goal.returns-in_err-complement-clause-adds
returns-in_err-complement-clause-adds g c = Adds-none

pub returns-in_err-sum-clause-adds : goal.returns-in_err-sum-clause-adds
returns-in_err-sum-clause-adds g c = Adds-weaken c.add_with_carry.ensures.adds (omega (arith, ap length c.as_slice-2.ensures))

pub returns-clause-adds : goal.returns-clause-adds
returns-clause-adds g c = Adds-weaken c.add_with_carry.ensures.adds (omega (arith, ap length c.as_slice-2.ensures))

pub returns-clause-known : goal.returns-clause-known
returns-clause-known g c inputs =
    let known = g.C.State.known c.args.c.now inputs in
    (rw (c.as_slice-2.ensures, c.as_slice-3.ensures) at (c.in_ok-sum.ensures.known inputs))
    ∙ ap (λ first. known_sum first (map known c.args.a.now) (map known c.in_ok-complement.complement)) (c.one-first.ensures.known inputs)
    ∙ ap (λ complement. known_sum (certain true) (map known c.args.a.now) complement) (rw c.as_slice.ensures at (c.in_ok-complement.ensures.known inputs))
