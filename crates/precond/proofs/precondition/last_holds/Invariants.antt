use Rattle.precond.proofs.Common.{◌≡◌, take, length, truths_of}
use Rattle.precond.proofs.precondition.last_holds.Given as goal

abbrev pub invariant-loop-n : goal.invariant-loop-n
invariant-loop-n l = record {
  count : length l.truths ≡ 256;
  are : take l.n l.truths ≡ truths_of l.values (take l.n l.formulas);
}
