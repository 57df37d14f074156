use Rattle.depth_first.proofs.Common.{length, take, CoversBelow, AddsClause}
use Rattle.depth_first.proofs.occurrences.Occurrences.add.Given as goal

abbrev pub invariant-loop-literal : goal.invariant-loop-literal
invariant-loop-literal l =
    record {
      covers : CoversBelow (length l.initial.self.positive.items) l.self;
      adds : AddsClause l.initial.self l.self (take l.literal-index l.clause) l.number;
    }
