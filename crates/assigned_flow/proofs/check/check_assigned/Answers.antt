use Rattle.assigned_flow.proofs.Counting.{few_reads}
use Rattle.assigned_flow.proofs.check.check_assigned.Goals as goal

pub check_block-requires-clause-operands : goal.check_block-requires-clause-operands
check_block-requires-clause-operands c = few_reads c.args.f.now c.requires.entries c.loop-block.block
