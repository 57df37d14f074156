use Rattle.precond.proofs.Common.{◌≡◌, take, length, of_constants, values_of}
use Rattle.precond.proofs.values.constant_values.Given as goal

abbrev pub invariant-loop-n : goal.invariant-loop-n
invariant-loop-n l = record {
  count : length l.values ≡ 256;
  are : take l.n l.values ≡ values_of l.typing (of_constants l.constants) (take l.n l.rule.terms);
}
