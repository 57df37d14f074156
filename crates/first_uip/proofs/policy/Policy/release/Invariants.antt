use Rattle.first_uip.proofs.Common.{◌≡◌, length}
use Rattle.first_uip.proofs.policy.Policy.release.Given as goal

abbrev pub invariant-loop-released : goal.invariant-loop-released
invariant-loop-released l = length l.self.negated.items ≡ length l.initial.self.negated.items
