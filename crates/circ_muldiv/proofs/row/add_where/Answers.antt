use Rattle.circ_muldiv.proofs.Common.{◌≤◌, ◌+◌, length, arith, IfOk-weaker, adder_gates, map-kept, Adds-trans, Adds-weaken, row_gates}
use Rattle.circ_muldiv.proofs.Masks.{sum_where}
use Rattle.circ_muldiv.proofs.row.add_where.Goals as goal

pub returns-clause-number : goal.returns-clause-number
returns-clause-number g c =
    let m = g.C.State in
    let keeps = c.masked.ensures.adds.keeps in
    IfOk-weaker c.add_with_carry.result _ _ (λ sum known inputs admitted.
    let now = keeps.admitted inputs admitted in
    sum_where (m.value c.args.c.now inputs) (m.value c.masked.new.c inputs) (m.value c.add_with_carry.new.c inputs) c.args.word.now c.args.added.now c.in_ok-shown.shown sum.bits c.args.digit sum.carry c.zero-first.result
    (map-kept keeps inputs admitted c.args.word.now c.requires.own_word) (c.in_ok-shown.ensures.number inputs admitted) (c.zero-first.ensures.value inputs now) (rw c.as_slice.ensures at (known inputs now)))
    c.add_with_carry.ensures.number

pub returns-clause-adds : goal.returns-clause-adds
returns-clause-adds g c =
    let few : length c.args.added.now + adder_gates (length c.args.word.now) ≤ row_gates (length c.args.word.now) = rw c.requires.same_width (omega arith) in
    Adds-weaken (Adds-trans c.masked.ensures.adds c.add_with_carry.ensures.adds) few

pub returns-in_err-shown-clause-adds : goal.returns-in_err-shown-clause-adds
returns-in_err-shown-clause-adds g c =
    let few : length c.args.added.now ≤ row_gates (length c.args.word.now) = rw c.requires.same_width (omega arith) in
    Adds-weaken c.masked.ensures.adds few
