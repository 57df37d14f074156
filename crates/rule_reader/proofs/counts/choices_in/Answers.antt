use Rattle.rule_reader.proofs.Building.{few_half}
use Rattle.rule_reader.proofs.counts.choices_in.Goals as goal

pub in_half-requires : goal.in_half-requires
in_half-requires c = rw c.of.ensures (few_half c.args.rule.now c.requires c.args.half)
