use Rattle.alive_top.proofs.Common.{module_has_outcomes}
use Rattle.alive_top.proofs.laws.every_module_written_has_outcomes.Goals as goal

pub returns : goal.returns
returns c = λ rules options bytes new table counts limited is. module_has_outcomes c.every_function_has_outcomes.ensures new is.checks
