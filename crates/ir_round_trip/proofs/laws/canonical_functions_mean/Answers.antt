use Rattle.ir_round_trip.proofs.Functions.{functions_mean}
use Rattle.ir_round_trip.proofs.laws.canonical_functions_mean.Goals as goal

pub returns : goal.returns
returns c = functions_mean
