use Rattle.places.proofs.Common.{IsRun, IsWithin, numbers_in}
use Rattle.places.proofs.links.Links.spacing_around.Given as goal

-- the run has the number
abbrev pub invariant-loop-bits : goal.invariant-loop-bits
invariant-loop-bits l =
    record {
      run : IsRun (numbers_in l.self) l.run;
      around : IsWithin (numbers_in l.self) (record { first = l.at; last = l.at; count = 1 }) l.run;
    }
