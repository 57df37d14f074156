use Rattle.bindings.proofs.Before.{stand_before}
use Rattle.bindings.proofs.laws.reads_of_a_block_stand_before.Goals as goal

pub returns : goal.returns
returns c = stand_before c.assigned_registers_keep_their_order.ensures.not_both
