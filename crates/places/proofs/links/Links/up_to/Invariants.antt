use Rattle.places.proofs.Common.{◌≡◌, ◌-◌, length, IsRun, IsWithin, place_in, numbers_in}
use Rattle.places.proofs.links.Links.up_to.Given as goal

abbrev pub invariant-loop-number : goal.invariant-loop-number
invariant-loop-number l =
    record {
      run : IsRun (numbers_in l.self) l.run;
      more : IsWithin (numbers_in l.self) l.fn.run l.run;
      first : l.run.first ≡ l.fn.run.first;
    }

abbrev pub decreases-loop-number : goal.decreases-loop-number
decreases-loop-number l = length (numbers_in l.self) - place_in (numbers_in l.self) l.run.last
