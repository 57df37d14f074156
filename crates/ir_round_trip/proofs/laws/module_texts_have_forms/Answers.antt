use Rattle.ir_round_trip.proofs.ReadForms.{modules_have_forms}
use Rattle.ir_round_trip.proofs.laws.module_texts_have_forms.Goals as goal

pub returns : goal.returns
returns c = modules_have_forms c.lexemes_are_tokens.ensures
