use Rattle.ir_round_trip.proofs.Modules.{modules_read}
use Rattle.ir_round_trip.proofs.laws.canonical_modules_read.Goals as goal

pub returns : goal.returns
returns c = modules_read
