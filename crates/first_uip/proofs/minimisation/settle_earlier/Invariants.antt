use Rattle.first_uip.proofs.Common.{◌≤◌, clauses_with, Resolves, SameKeptFrom, EachMarked}
use Rattle.first_uip.proofs.minimisation.settle_earlier.Given as goal

abbrev pub invariant-loop-place : goal.invariant-loop-place
invariant-loop-place l =
    record {
      within : l.end ≤ l.start;
      resolves : Resolves (clauses_with l.cnf l.log) l.trail.entries.items l.start l.initial.roles l.end l.roles;
      same_later : SameKeptFrom l.trail.entries.items l.initial.roles l.roles l.start;
      marked : EachMarked l.blocks l.places l.roles;
    }

abbrev pub decreases-loop-place : goal.decreases-loop-place
decreases-loop-place l = l.end
