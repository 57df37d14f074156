use Rattle.ir_meaning.proofs.Equations.{equations, equations_here}
use Rattle.ir_meaning.proofs.histories.equations_hold_where_assigned.Goals as goal

pub returns-clause-assigned : goal.returns-clause-assigned
returns-clause-assigned c = equations

pub returns-clause-one_visit : goal.returns-clause-one_visit
returns-clause-one_visit c = equations_here
