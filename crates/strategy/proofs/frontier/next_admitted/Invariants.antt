-- matches at places that are not on the worklist are turned down, and the search has come to the first place that is
use Rattle.strategy.proofs.Common.{IsWorklistOf, size_of, members_of, AreTurnedDownBut, Nowhere}
use Rattle.strategy.proofs.Searching.{Gone}
use Rattle.strategy.proofs.frontier.next_admitted.Given as goal

abbrev pub decreases-loop-place : goal.decreases-loop-place
decreases-loop-place l = size_of l.worklist

abbrev pub invariant-loop-place : goal.invariant-loop-place
invariant-loop-place l = record {
  worklist : IsWorklistOf l.draft l.worklist;
  others : AreTurnedDownBut l.rules.across l.rules.all.now l.verdicts.table Nowhere l.draft l.bits (members_of l.worklist);
  gone : Gone l.rules.across l.rules.all.now l.conflicts l.draft l.fn.verdicts l.verdicts (members_of l.worklist);
}
