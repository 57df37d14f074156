use Rattle.ops.proofs.Undefined.{instruction-undefined}
use Rattle.ops.proofs.laws.undefined_is_of_divisions.Goals as goal

pub returns : goal.returns
returns c = instruction-undefined
