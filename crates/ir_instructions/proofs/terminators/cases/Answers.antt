use Rattle.ir_instructions.proofs.Takings.{case-takes}
use Rattle.ir_instructions.proofs.terminators.cases.Goals as goal

pub each-requires : goal.each-requires
each-requires c = case-takes
