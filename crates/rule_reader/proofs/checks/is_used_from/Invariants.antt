-- no statement so far uses the register
use Rattle.rule_reader.proofs.Common.{◌≡◌, ℕ, ◌<◌, ◌≤◌, Some, slice_get, RawStatement, Uses}
use Rattle.rule_reader.proofs.checks.is_used_from.Given as goal

abbrev pub invariant-loop-later : goal.invariant-loop-later
invariant-loop-later l = (k : ℕ) (s : RawStatement) → l.place ≤ k → k < l.later → slice_get l.statements k ≡ Some s → ¬ Uses s.op l.name
