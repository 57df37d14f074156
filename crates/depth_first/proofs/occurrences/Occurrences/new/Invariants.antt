use Rattle.depth_first.proofs.Common.{◌+◌, all_clauses, CoversBelow, FindsBelow}
use Rattle.depth_first.proofs.occurrences.Occurrences.new.Given as goal

abbrev pub invariant-loop-number : goal.invariant-loop-number
invariant-loop-number l =
    record {
      covers : CoversBelow (l.cnf.count + 1) l.occurrences;
      finds : FindsBelow (all_clauses l.cnf) l.number l.occurrences;
    }
