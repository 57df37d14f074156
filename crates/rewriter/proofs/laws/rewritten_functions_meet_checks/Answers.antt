use Rattle.rewriter.proofs.Rewriting.{new_meets_checks, new_numbers_fit}
use Rattle.rewriter.proofs.laws.rewritten_functions_meet_checks.Goals as goal

pub returns-clause-checks : goal.returns-clause-checks
returns-clause-checks c = new_meets_checks

pub returns-clause-numbers : goal.returns-clause-numbers
returns-clause-numbers c = new_numbers_fit
