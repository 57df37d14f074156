use Rattle.ops.proofs.Common.{xor_lt}
use Rattle.ops.proofs.bitwise.xor.Goals as goal

pub fitting-requires : goal.fitting-requires
fitting-requires c = xor_lt _ _ _ c.requires.left c.requires.right
