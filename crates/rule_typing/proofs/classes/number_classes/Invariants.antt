use Rattle.rule_typing.proofs.Numbering.{IsNumbered}
use Rattle.rule_typing.proofs.classes.number_classes.Given as goal

-- the positions before this one have their final numbers
abbrev pub invariant-loop-position : goal.invariant-loop-position
invariant-loop-position l = IsNumbered l.initial.rule l.rule l.position l.next
