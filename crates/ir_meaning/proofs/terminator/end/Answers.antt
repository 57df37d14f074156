use Rattle.ir_meaning.proofs.Following.{switch_goes}
use Rattle.ir_meaning.proofs.terminator.end.Goals as goal

pub returns-in-Some-number-clause-goes : goal.returns-in-Some-number-clause-goes
returns-in-Some-number-clause-goes c =
    switch_goes c.args.end.now c.in-Switch.a c.in-Switch.width c.in-Switch.other c.in-Switch.cases c.in-Some-number.n c.case_target.result c.in-Switch.is (rw c.as_slice-in-Some-number.ensures at c.case_target.ensures)
