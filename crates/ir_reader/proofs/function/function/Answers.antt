-- The function that is meant is returned if all checks of it pass.
use Rattle.ir_reader.proofs.Common.{err_from_is_err_and}
use Rattle.ir_reader.proofs.Checking.{names_fault, checked_fault}
use Rattle.ir_reader.proofs.function.function.Goals as goal

pub returns-in_err-f-clause-refused : goal.returns-in_err-f-clause-refused
returns-in_err-f-clause-refused c =
    let p = err_from_is_err_and c.from_residual.result c.from_residual.ensures.1 in
    rw (p.1, p.2) (names_fault c.args.is_repeated c.args.raw.now c.in_err-f.field-0.0 c.in_err-f.ensures.refused)

pub check-requires-clause-means : goal.check-requires-clause-means
check-requires-clause-means c = c.in_ok-f.ensures.means

pub returns-in_err-check-clause-refused : goal.returns-in_err-check-clause-refused
returns-in_err-check-clause-refused c =
    let p = err_from_is_err_and c.from_residual-in_err-check.result c.from_residual-in_err-check.ensures.1 in
    rw (p.1, p.2) (checked_fault c.args.is_repeated c.args.raw.now c.in_err-check.field-0.0 c.in_ok-f.ensures.faultless c.in_err-check.ensures.refused)

pub returns-clause-ok : goal.returns-clause-ok
returns-clause-ok c = λ earlier marks. c.in_ok-check.ensures.ok earlier (c.in_ok-f.ensures.faultless earlier marks)
