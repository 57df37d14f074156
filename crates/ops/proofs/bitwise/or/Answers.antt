use Rattle.ops.proofs.Common.{or_lt}
use Rattle.ops.proofs.bitwise.or.Goals as goal

pub fitting-requires : goal.fitting-requires
fitting-requires c = or_lt _ _ _ c.requires.left c.requires.right
