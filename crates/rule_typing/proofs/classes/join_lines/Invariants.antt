use Rattle.rule_typing.proofs.Common.{classes_of, IsMerged}
use Rattle.rule_typing.proofs.Merging.{total}
use Rattle.rule_typing.proofs.classes.join_lines.Given as goal

abbrev pub invariant-loop-a : goal.invariant-loop-a
invariant-loop-a l = IsMerged l.initial.rule l.rule

-- each merge makes the sum of the positions' numbers smaller
abbrev pub decreases-loop-a : goal.decreases-loop-a
decreases-loop-a l = total (classes_of l.rule)
