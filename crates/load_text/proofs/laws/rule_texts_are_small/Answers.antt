use Rattle.load_text.proofs.SmallTexts.{texts_small}
use Rattle.load_text.proofs.laws.rule_texts_are_small.Goals as goal

pub returns : goal.returns
returns c = texts_small
