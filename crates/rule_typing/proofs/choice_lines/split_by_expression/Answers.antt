use Rattle.rule_typing.proofs.choice_lines.split_by_expression.Goals as goal

pub returns-in-Source : goal.returns-in-Source
returns-in-Source c = rw c.in-Source.is (rw c.chosen_class.ensures at c.split_classes.ensures)
