use Rattle.rule_typing.proofs.Common.{[], ◌∷◌}
use Rattle.rule_typing.proofs.Walks.{then_list}
use Rattle.rule_typing.proofs.lines.split_by_two.Goals as goal

pub returns-in-None : goal.returns-in-None
returns-in-None c = then_list ((c.args.class, c.args.left) ∷ []) ((c.args.class, c.args.right) ∷ []) c.split_pair-in-None.result c.in-None.ensures c.split_pair-in-None.ensures
