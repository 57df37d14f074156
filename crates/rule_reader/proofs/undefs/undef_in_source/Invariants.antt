-- none of the statements so far but the last makes a choice, and none freezes an `undef`
use Rattle.rule_reader.proofs.Common.{HasUndefInside}
use Rattle.rule_reader.proofs.Firsts.{NoneBefore}
use Rattle.rule_reader.proofs.undefs.undef_in_source.Given as goal

abbrev pub invariant-loop-place : goal.invariant-loop-place
invariant-loop-place l = NoneBefore l.source (HasUndefInside l.source) l.place
