use Rattle.ir_parse.proofs.TakingParts.{block-takes}
use Rattle.ir_parse.proofs.block.blocks.Goals as goal

pub each-requires : goal.each-requires
each-requires c = block-takes
