use Rattle.rule_typing.proofs.term_lines.split_by_comparison.Goals as goal

pub returns-in-Compare : goal.returns-in-Compare
returns-in-Compare c = rw c.in-Compare.is (rw (c.node_class.ensures, c.node_class-in-Compare.ensures) at c.split_classes.ensures)
