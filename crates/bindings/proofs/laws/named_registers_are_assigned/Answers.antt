use Rattle.bindings.proofs.TemporariesBefore.{named_registers}
use Rattle.bindings.proofs.laws.named_registers_are_assigned.Goals as goal

pub returns : goal.returns
returns c = named_registers c.assigned_registers_keep_their_order.ensures.transitive
