use Rattle.rule_typing.proofs.Common.{◌≤◌, ◌-◌, length}
use Rattle.rule_typing.proofs.Found.{AreFound}
use Rattle.rule_typing.proofs.enumeration.typings.Given as goal

abbrev pub invariant-loop-next : goal.invariant-loop-next
invariant-loop-next l = AreFound l.rule l.sets.items l.found l.next × (length l.found ≤ l.most)

abbrev pub decreases-loop-next : goal.decreases-loop-next
decreases-loop-next l = l.most - length l.found
