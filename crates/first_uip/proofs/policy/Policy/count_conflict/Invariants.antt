use Rattle.first_uip.proofs.Common.{◌≡◌, length}
use Rattle.first_uip.proofs.policy.Policy.count_conflict.Given as goal

abbrev pub invariant-loop-entry : goal.invariant-loop-entry
invariant-loop-entry l = length l.self.negated.items ≡ length l.initial.self.negated.items
