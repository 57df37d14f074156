use Rattle.ops.proofs.Common.{arith, pow_below}
use Rattle.ops.proofs.conversion.converted.Goals as goal

pub fitting-requires : goal.fitting-requires
fitting-requires c = omega (arith, c.requires.number, pow_below c.args.from c.args.to (rw c.in-ZExt.is at c.requires.widths))
