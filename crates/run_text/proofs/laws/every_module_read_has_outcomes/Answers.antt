use Rattle.run_text.proofs.LawLemmas.{module_has_outcomes}
use Rattle.run_text.proofs.laws.every_module_read_has_outcomes.Goals as goal

pub returns : goal.returns
returns c = λ bytes m is. module_has_outcomes c.every_function_has_outcomes.ensures m (c.module_texts_meet_checks.ensures bytes m is)
