use Rattle.depth_first.proofs.Common.{◌≡◌, take, negations_of, decisions, reasons, marked_entries}
use Rattle.depth_first.proofs.learned.step_of.Given as goal

abbrev pub invariant-loop-entry : goal.invariant-loop-entry
invariant-loop-entry l =
    record {
      clause_so_far : l.step.clause ≡ negations_of (decisions (take l.entry-index l.trail.entries.items));
      hints_so_far : l.step.hints ≡ reasons (marked_entries l.marked (take l.entry-index l.trail.entries.items));
    }
