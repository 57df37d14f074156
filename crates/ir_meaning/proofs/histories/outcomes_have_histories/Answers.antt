use Rattle.ir_meaning.proofs.HistoryOutcomes.{outcomes_histories}
use Rattle.ir_meaning.proofs.Steps.{histories_paths, moments_reached, entered_from}
use Rattle.ir_meaning.proofs.histories.outcomes_have_histories.Goals as goal

pub returns-clause-outcomes : goal.returns-clause-outcomes
returns-clause-outcomes c = outcomes_histories

pub returns-clause-paths : goal.returns-clause-paths
returns-clause-paths c = histories_paths

pub returns-clause-reached : goal.returns-clause-reached
returns-clause-reached c = moments_reached

pub returns-clause-entered : goal.returns-clause-entered
returns-clause-entered c = entered_from
