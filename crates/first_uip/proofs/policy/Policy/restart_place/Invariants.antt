use Rattle.first_uip.proofs.Common.{◌≡◌, length}
use Rattle.first_uip.proofs.policy.Policy.restart_place.Given as goal

abbrev pub invariant-loop-place : goal.invariant-loop-place
invariant-loop-place l = length l.self.negated.items ≡ length l.initial.self.negated.items
