use Rattle.bindings.proofs.TemporariesBefore.{operands_assigned}
use Rattle.bindings.proofs.laws.operands_are_assigned_with_results.Goals as goal

pub returns : goal.returns
returns c = operands_assigned c.assigned_registers_keep_their_order.ensures.transitive
