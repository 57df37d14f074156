use Rattle.load_gen.proofs.Common.{◌≤◌, ◌^◌, arith, pow_mono}
use Rattle.load_gen.proofs.drawn.number.Goals as goal

pub fitting-requires : goal.fitting-requires
fitting-requires c = let least : 2 ^ 3 ≤ 2 ^ c.args.width = pow_mono c.requires.width in omega arith
