use Rattle.ir_instructions.proofs.Takings.{inner-takes}
use Rattle.ir_instructions.proofs.argument.inner_items.Goals as goal

pub each-requires : goal.each-requires
each-requires c = inner-takes
