use Rattle.substitution.proofs.Substituting.{instructions_give, phis_give, terminators_end}
use Rattle.substitution.proofs.laws.substituted_operations_give_the_same.Goals as goal

pub returns-clause-instructions : goal.returns-clause-instructions
returns-clause-instructions c = instructions_give

pub returns-clause-phis : goal.returns-clause-phis
returns-clause-phis c = phis_give

pub returns-clause-terminators : goal.returns-clause-terminators
returns-clause-terminators c = terminators_end
