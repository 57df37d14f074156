use Rattle.depth_first.proofs.Common.{◌≡◌, length, take}
use Rattle.depth_first.proofs.trail.Trail.cut.Given as goal

abbrev pub invariant-loop-self : goal.invariant-loop-self
invariant-loop-self l =
    record {
      entries : take l.kept l.self.entries.items ≡ take l.kept l.initial.self.entries.items;
      variables : length l.self.values.items ≡ length l.initial.self.values.items;
    }

abbrev pub decreases-loop-self : goal.decreases-loop-self
decreases-loop-self l = length l.self.entries.items
