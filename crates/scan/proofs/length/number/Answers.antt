use Rattle.scan.proofs.Common.{ℕ, sym, ap, subst, not, is_digit, is_run, IsLongest, is_literal, is_negative}
use Rattle.scan.proofs.Fronts.{run_is_longest, longest_without, longest_with}
use Rattle.scan.proofs.length.number.Goals as goal

pub returns-then-operator : goal.returns-then-operator
unfolding is_literal
returns-then-operator c =
    subst (λ (n : ℕ). IsLongest (λ bytes rest. is_literal c.args.operator bytes) c.args.text.now n) (sym c.digit_run-digits.ensures)
    (longest_without (λ bytes rest. is_run is_digit bytes) (λ bytes rest. is_negative bytes) (not c.args.operator) c.args.text.now _ (ap not c.if-operator.true) (run_is_longest is_digit c.args.text.now))

pub returns-else-operator : goal.returns-else-operator
unfolding is_literal
returns-else-operator c =
    subst (λ (n : ℕ). IsLongest (λ bytes rest. is_literal c.args.operator bytes) c.args.text.now n) (sym c.max.ensures)
    (longest_with (λ bytes rest. is_run is_digit bytes) (λ bytes rest. is_negative bytes) (not c.args.operator) c.args.text.now c.digit_run-digits.result c.negative.result (ap not c.if-operator.false)
    (subst (λ (n : ℕ). IsLongest (λ bytes rest. is_run is_digit bytes) c.args.text.now n) (sym c.digit_run-digits.ensures) (run_is_longest is_digit c.args.text.now)) c.negative.ensures)
