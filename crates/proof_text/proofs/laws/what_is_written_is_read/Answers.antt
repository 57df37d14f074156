use Rattle.proof_text.proofs.TextReadings.{written_read}
use Rattle.proof_text.proofs.laws.what_is_written_is_read.Goals as goal

pub returns : goal.returns
returns c = written_read c.args.proofs.now
