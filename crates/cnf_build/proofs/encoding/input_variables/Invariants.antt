use Rattle.cnf_build.proofs.Common.{◌≡◌, ◌+◌, length, EachIndex, slice_index}
use Rattle.cnf_build.proofs.encoding.input_variables.Given as goal

abbrev pub invariant-loop-number : goal.invariant-loop-number
invariant-loop-number l =
    record {
      count : length l.variables ≡ l.number;
      each : EachIndex l.variables (λ k. slice_index l.variables k ≡ k + 1);
    }
