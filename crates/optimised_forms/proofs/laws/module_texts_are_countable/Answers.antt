use Rattle.optimised_forms.proofs.Counted.{texts_are_countable}
use Rattle.optimised_forms.proofs.laws.module_texts_are_countable.Goals as goal

pub returns : goal.returns
returns c = texts_are_countable c.module_texts_are_small.ensures
