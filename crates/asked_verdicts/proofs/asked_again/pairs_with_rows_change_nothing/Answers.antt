use Rattle.asked_verdicts.proofs.Again.{rows_change_nothing}
use Rattle.asked_verdicts.proofs.asked_again.pairs_with_rows_change_nothing.Goals as goal

pub returns : goal.returns
returns c = rows_change_nothing
