use Rattle.rule_core.proofs.Common.{length, ap, arith}
use Rattle.rule_core.proofs.Weights.{few_terms}
use Rattle.rule_core.proofs.typing.positions.Goals as goal

pub positions_among-requires : goal.positions_among-requires
positions_among-requires c = omega (arith, few_terms c.args.rule.now c.requires, ap length c.as_slice-3.ensures)

pub positions_among-requires-2 : goal.positions_among-requires-2
positions_among-requires-2 c = omega (arith, few_terms c.args.rule.now c.requires, ap length c.as_slice-4.ensures)
