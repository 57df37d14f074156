use Rattle.depth_first.proofs.Common.{take, IfSome, IsSoFar, literals, IsOpen}
use Rattle.depth_first.proofs.propagation.status_of.Given as goal

abbrev pub invariant-loop-literal : goal.invariant-loop-literal
invariant-loop-literal l =
    record {
      so_far : IsSoFar (literals l.trail.entries.items) (take l.literal-index l.clause) l.open;
      is_open : IfSome l.open (λ o. IsOpen (literals l.trail.entries.items) o.variable);
    }
