use Rattle.use_counts.proofs.OneCount.{count_of_one, use_counts_are_one}
use Rattle.use_counts.proofs.laws.every_register_has_one_use_count.Goals as goal

pub returns-clause-one : goal.returns-clause-one
returns-clause-one c = use_counts_are_one

pub returns-clause-once : goal.returns-clause-once
returns-clause-once c = count_of_one
