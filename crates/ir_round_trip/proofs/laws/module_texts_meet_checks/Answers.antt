use Rattle.ir_round_trip.proofs.Common.{module_meets}
use Rattle.ir_round_trip.proofs.laws.module_texts_meet_checks.Goals as goal

pub returns : goal.returns
returns c = module_meets
