use Rattle.ir_instructions.proofs.Takings.{inst-takes}
use Rattle.ir_instructions.proofs.op.insts.Goals as goal

pub each-requires : goal.each-requires
each-requires c = inst-takes
