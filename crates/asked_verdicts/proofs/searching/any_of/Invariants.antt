-- the matches so far are asked, and `any` says whether one of them is admitted
use Rattle.asked_verdicts.proofs.Common.{map, take, All, Any, MatchBool, pair_of, IsTurnedDown, Asks}
use Rattle.strategy_core.specs.Asked.{IsAdmitted}
use Rattle.asked_verdicts.proofs.searching.any_of.Given as goal

abbrev pub invariant-loop-asking : goal.invariant-loop-asking
invariant-loop-asking l = record {
  asks : Asks l.rules l.conflicts (map pair_of (take l.asking-index l.matches)) l.fn.verdicts l.verdicts;
  answer : MatchBool l.any (Any (IsAdmitted l.verdicts.table) (take l.asking-index l.matches)) (All (IsTurnedDown l.verdicts.table) (take l.asking-index l.matches));
}
