use Rattle.rule_typing.proofs.lines.split_classes.Goals as goal

pub returns-in-Some-Some : goal.returns-in-Some-Some
returns-in-Some-Some c = rw (c.in-Some-Some.is-0, c.in-Some-Some.is-1) c.split_pair.ensures
