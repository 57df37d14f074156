use Rattle.scan.proofs.Common.{◌<◌, length, arith, sym, ◌∙◌, prefix_len, is_digit, is_negative}
use Rattle.scan.proofs.Fronts.{marked_none, marked_empty, marked_some, marked_fits}
use Rattle.scan.proofs.length.negative.Goals as goal

pub returns-in_default : goal.returns-in_default
unfolding is_negative
returns-in_default c = marked_none 45 is_digit c.args.text.now c.in_default.ensures.none

pub overflow_add-result : goal.overflow_add-result
overflow_add-result c =
    let fits : prefix_len is_digit c.in-Some.digits.now < length c.args.text.now = marked_fits 45 is_digit c.args.text.now c.in-Some.digits.now c.in-Some.ensures.some in
    omega arith

pub returns-then-run-eq0 : goal.returns-then-run-eq0
unfolding is_negative
returns-then-run-eq0 c = marked_empty 45 is_digit c.args.text.now c.in-Some.digits.now c.in-Some.ensures.some (sym c.digit_run-run.ensures ∙ c.if-run-eq0.true)

pub returns-else-run-eq0 : goal.returns-else-run-eq0
unfolding is_negative
returns-else-run-eq0 c = marked_some 45 is_digit c.args.text.now c.in-Some.digits.now c.digit_run-run.result c.in-Some.ensures.some c.digit_run-run.ensures c.if-run-eq0.false
