use Rattle.depth_first.proofs.Decisions.{LastBefore}
use Rattle.depth_first.proofs.trail.Trail.last_decision.Given as goal

abbrev pub invariant-loop-place : goal.invariant-loop-place
invariant-loop-place l = LastBefore l.self.entries.items l.place l.last
