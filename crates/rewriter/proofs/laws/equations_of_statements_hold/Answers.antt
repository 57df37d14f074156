use Rattle.rewriter.proofs.Equations.{equations_hold}
use Rattle.rewriter.proofs.laws.equations_of_statements_hold.Goals as goal

pub returns : goal.returns
returns c = equations_hold c.equations_hold_where_assigned.ensures.assigned
