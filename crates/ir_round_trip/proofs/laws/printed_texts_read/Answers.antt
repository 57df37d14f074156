use Rattle.ir_round_trip.proofs.Modules.{texts_read}
use Rattle.ir_round_trip.proofs.laws.printed_texts_read.Goals as goal

pub returns : goal.returns
returns c = texts_read c.printed_texts_spell_their_module.ensures
