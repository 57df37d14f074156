use Rattle.ir_text.proofs.Modules.{printed_texts_spell}
use Rattle.ir_text.proofs.laws.printed_texts_spell_their_module.Goals as goal

pub returns : goal.returns
returns c = printed_texts_spell
