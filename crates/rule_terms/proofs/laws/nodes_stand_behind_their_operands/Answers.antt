use Rattle.rule_terms.proofs.Places.{nodes_behind}
use Rattle.rule_terms.proofs.laws.nodes_stand_behind_their_operands.Goals as goal

pub returns : goal.returns
returns c = nodes_behind
