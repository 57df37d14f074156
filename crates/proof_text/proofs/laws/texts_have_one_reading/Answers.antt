use Rattle.proof_text.proofs.TextReadings.{one_reading}
use Rattle.proof_text.proofs.laws.texts_have_one_reading.Goals as goal

pub returns : goal.returns
returns c = one_reading
