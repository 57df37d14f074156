use Rattle.ir_meaning.proofs.Orders.{refines_itself, refines_transitively}
use Rattle.ir_meaning.proofs.histories.refinement_is_an_order.Goals as goal

pub returns-clause-reflexive : goal.returns-clause-reflexive
returns-clause-reflexive c = refines_itself

pub returns-clause-transitive : goal.returns-clause-transitive
returns-clause-transitive c = refines_transitively
