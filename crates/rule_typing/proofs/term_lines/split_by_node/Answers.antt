use Rattle.rule_typing.proofs.Common.{Some, paired, node_class}
use Rattle.rule_typing.proofs.Walks.{then_list}
use Rattle.rule_typing.proofs.term_lines.split_by_node.Goals as goal

pub returns-in-Unary : goal.returns-in-Unary
returns-in-Unary c = rw c.in-Unary.is (rw c.node_class.ensures at c.split_classes.ensures)

pub returns-in-None : goal.returns-in-None
returns-in-None c =
    rw c.in-Binary.is
    (then_list (paired (Some c.args.class) (node_class c.args.terms.now c.in-Binary.left)) (paired (Some c.args.class) (node_class c.args.terms.now c.in-Binary.right)) c.split_classes-in-None.result
    (rw c.node_class-in-Binary.ensures at c.in-None.ensures) (rw c.node_class-in-None.ensures at c.split_classes-in-None.ensures))
