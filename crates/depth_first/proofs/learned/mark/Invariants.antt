use Rattle.depth_first.proofs.Common.{◌≡◌, length, take, Marks}
use Rattle.depth_first.proofs.learned.mark.Given as goal

abbrev pub invariant-loop-literal : goal.invariant-loop-literal
invariant-loop-literal l =
    record {
      size : length l.marked.items ≡ length l.initial.marked.items;
      marks : Marks (take l.literal-index l.clause) l.initial.marked.items l.marked.items;
    }
