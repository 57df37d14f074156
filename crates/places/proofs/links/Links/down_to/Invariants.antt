use Rattle.places.proofs.Common.{IsRun, IsWithin, place_in, numbers_in}
use Rattle.places.proofs.links.Links.down_to.Given as goal

abbrev pub invariant-loop-number : goal.invariant-loop-number
invariant-loop-number l =
    record {
      run : IsRun (numbers_in l.self) l.run;
      more : IsWithin (numbers_in l.self) l.fn.run l.run;
    }

abbrev pub decreases-loop-number : goal.decreases-loop-number
decreases-loop-number l = place_in (numbers_in l.self) l.run.first
