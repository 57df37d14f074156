use Rattle.circuits.proofs.Common.{length, map, ◌+◌, ◌^◌, ap, ◌∙◌, length-map, known_sum, number_of}
use Rattle.circuits.proofs.Words.{sum_remainder, nothing_carried}
use Rattle.circuits.proofs.arithmetic.add.Goals as goal

pub returns-clause-number : goal.returns-clause-number
returns-clause-number g c inputs admitted =
    let value = g.C.State.value c.args.c.now inputs in
    sum_remainder _ (length c.args.a.now) _ _ (length-map c.in_ok-sum.sum.bits (g.C.State.value c.add_with_carry.new.c inputs) ∙ c.in_ok-sum.ensures.width ∙ ap length c.as_slice.ensures)
    (rw (c.as_slice.ensures, c.as_slice-2.ensures) at (c.in_ok-sum.ensures.number inputs admitted))
    ∙ nothing_carried (number_of value c.args.a.now + number_of value c.args.b.now) (2 ^ length c.args.a.now) (value c.zero-first.result) (c.zero-first.ensures.value inputs admitted)

pub returns-clause-known : goal.returns-clause-known
returns-clause-known g c inputs =
    let known = g.C.State.known c.args.c.now inputs in
    (rw (c.as_slice.ensures, c.as_slice-2.ensures) at (c.in_ok-sum.ensures.known inputs))
    ∙ ap (λ first. known_sum first (map known c.args.a.now) (map known c.args.b.now)) (c.zero-first.ensures.known inputs)
