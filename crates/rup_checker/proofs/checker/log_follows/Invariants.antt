use Rattle.rup_checker.proofs.Common.{◌≡◌, ℕ, ◌<◌, false, [], Some, slice_get, Step, VariablesWithin, StepFollows, clauses_before, Represents, used_in}
use Rattle.rup_checker.proofs.checker.log_follows.Given as goal

-- each step before this one follows, and the table holds no literal and marks no clause
abbrev pub invariant-loop-place : goal.invariant-loop-place
invariant-loop-place l =
    record {
      follows : (k : ℕ) (step : Step) → k < l.place → slice_get l.log k ≡ Some step → StepFollows l.cnf (clauses_before l.cnf l.log k) step;
      within : VariablesWithin l.cnf.count (clauses_before l.cnf l.log l.place);
      blank : Represents l.table [];
      unused : (number : ℕ) → used_in l.used number ≡ false;
    }
