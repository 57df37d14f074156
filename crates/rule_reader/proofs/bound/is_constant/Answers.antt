use Rattle.rule_reader.proofs.Assignments.{says_as}
use Rattle.rule_reader.proofs.Found.{constant_of, of_constant}
use Rattle.rule_reader.proofs.bound.is_constant.Goals as goal

pub returns : goal.returns
returns c =
    says_as _ _ _ (rw c.as_slice.ensures at c.is_among.ensures) (constant_of c.args.rule.now.source c.args.names.now c.requires c.args.name.now, of_constant c.args.rule.now.source c.args.names.now c.requires c.args.name.now)
