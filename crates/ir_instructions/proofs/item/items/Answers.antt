use Rattle.ir_instructions.proofs.ItemSizes.{item-takes}
use Rattle.ir_instructions.proofs.item.items.Goals as goal

pub each-requires : goal.each-requires
each-requires c = item-takes
