use Rattle.ir_round_trip.proofs.ReadSizes.{texts_small}
use Rattle.ir_round_trip.proofs.laws.module_texts_are_small.Goals as goal

pub returns : goal.returns
returns c = texts_small
