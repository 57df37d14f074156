use Rattle.ir_meaning.proofs.Holding.{assigned_ran, results_held, operands_held, one_visit}
use Rattle.ir_meaning.proofs.histories.registers_hold_what_they_did.Goals as goal

pub returns-clause-ran : goal.returns-clause-ran
returns-clause-ran c = assigned_ran

pub returns-clause-results : goal.returns-clause-results
returns-clause-results c = results_held

pub returns-clause-operands : goal.returns-clause-operands
returns-clause-operands c = operands_held

pub returns-clause-one_visit : goal.returns-clause-one_visit
returns-clause-one_visit c = one_visit
