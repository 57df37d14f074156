use Rattle.draft_bits.proofs.Common.{refl}
use Rattle.draft_bits.proofs.rows.put_in.Goals as goal

pub returns : goal.returns
returns c = record { block = refl; results = c.put_word.ensures }
