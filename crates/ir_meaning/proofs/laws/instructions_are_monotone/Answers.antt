use Rattle.ir_meaning.proofs.Monotone.{instructions-monotone, phis-monotone}
use Rattle.ir_meaning.proofs.laws.instructions_are_monotone.Goals as goal

pub returns-clause-instructions : goal.returns-clause-instructions
returns-clause-instructions c = instructions-monotone

pub returns-clause-phis : goal.returns-clause-phis
returns-clause-phis c = phis-monotone
