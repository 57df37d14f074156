-- the slots of the statements from this one on are filled with what a match has
use Rattle.matcher.proofs.Common.{Bool, Knowledge, MatchesInAnyOrder, AreSlotsOf, KnowsFrom, Binding}
use Rattle.matcher.proofs.candidate.candidate.Given as goal

abbrev pub invariant-loop-j : goal.invariant-loop-j
invariant-loop-j l = record {
  slots : AreSlotsOf l.rule l.slots;
  knows : (across : Bool) (known : Knowledge) (m : Binding) → MatchesInAnyOrder across known l.f l.block l.place l.rule m → KnowsFrom l.rule l.j l.slots m;
}
