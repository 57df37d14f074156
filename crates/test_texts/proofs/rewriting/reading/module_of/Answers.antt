use Rattle.test_texts.proofs.rewriting.reading.module_of.Goals as goal

pub returns-in-Ok-clause-forms : goal.returns-in-Ok-clause-forms
returns-in-Ok-clause-forms c = c.in-Ok.ensures.forms
