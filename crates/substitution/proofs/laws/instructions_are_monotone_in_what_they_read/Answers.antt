use Rattle.substitution.proofs.Allowing.{instructions_monotone, terminators_monotone}
use Rattle.substitution.proofs.laws.instructions_are_monotone_in_what_they_read.Goals as goal

pub returns-clause-instructions : goal.returns-clause-instructions
returns-clause-instructions c = instructions_monotone

pub returns-clause-terminators : goal.returns-clause-terminators
returns-clause-terminators c = terminators_monotone
