use Rattle.substitution.proofs.Checking.{meets_checks, numbers_fit}
use Rattle.substitution.proofs.laws.rewritten_functions_meet_checks.Goals as goal

pub returns-clause-checks : goal.returns-clause-checks
returns-clause-checks c = meets_checks

pub returns-clause-numbers : goal.returns-clause-numbers
returns-clause-numbers c = numbers_fit
