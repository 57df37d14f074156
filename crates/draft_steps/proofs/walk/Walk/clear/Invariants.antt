use Rattle.draft_steps.proofs.Common.{◌≡◌, ◌<◌, length, All}
use Rattle.draft_steps.proofs.Walking.{AreListed}
use Rattle.draft_steps.proofs.walk.Walk.clear.Given as goal

abbrev pub invariant-loop-place : goal.invariant-loop-place
invariant-loop-place l =
    record {
      blocks : length l.self.reached ≡ length l.initial.self.reached;
      inside : All (λ p. p.block < length l.self.reached) l.self.found.items;
      listed : AreListed l.self.reached l.self.found.items;
    }

abbrev pub decreases-loop-place : goal.decreases-loop-place
decreases-loop-place l = length l.self.found.items
