use Rattle.circuits.proofs.Common.{ap, ◌∙◌, IfOk-weaker, number, number_of}
use Rattle.circuits.proofs.Shifts.{number-moved_down}
use Rattle.circuits.proofs.shift.shift_right.Goals as goal

pub returns-clause-number : goal.returns-clause-number
returns-clause-number g c =
    IfOk-weaker c.shift.result _ _ (λ shifted known inputs admitted.
    let value = g.C.State.value c.args.c.now inputs in
    ap number (known inputs admitted) ∙ number-moved_down value c.args.top (number_of value c.args.amount.now) c.args.a.now)
    c.shift.ensures.values
