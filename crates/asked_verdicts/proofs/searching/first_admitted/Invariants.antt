-- the matches so far are asked, and turned down
use Rattle.asked_verdicts.proofs.Common.{map, take, All, pair_of, IsTurnedDown, Asks}
use Rattle.asked_verdicts.proofs.searching.first_admitted.Given as goal

abbrev pub invariant-loop-place : goal.invariant-loop-place
invariant-loop-place l = record {
  asks : Asks l.rules l.conflicts (map pair_of (take l.place l.matches)) l.fn.verdicts l.verdicts;
  turned_down : All (IsTurnedDown l.verdicts.table) (take l.place l.matches);
}
