use Rattle.known_bits.proofs.Holding.{operands_have_known_bits}
use Rattle.known_bits.proofs.Results.{results_have}
use Rattle.known_bits.proofs.KnownNumbers.{numbers_have}
use Rattle.known_bits.proofs.laws.operands_have_known_bits.Goals as goal

pub returns-clause-operands : goal.returns-clause-operands
returns-clause-operands c = operands_have_known_bits

pub returns-clause-results : goal.returns-clause-results
returns-clause-results c = results_have

pub returns-clause-numbers : goal.returns-clause-numbers
returns-clause-numbers c = numbers_have
