use Rattle.scan.proofs.Common.{◌<◌, length, arith, sym, ◌∙◌, prefix_len, is_register_byte}
use Rattle.scan.specs.RuleTokens.{is_register}
use Rattle.scan.proofs.Fronts.{marked_none, marked_empty, marked_some, marked_fits}
use Rattle.scan.proofs.length.register.Goals as goal

pub returns-in_default : goal.returns-in_default
unfolding is_register
returns-in_default c = marked_none 37 is_register_byte c.args.text.now c.in_default.ensures.none

pub overflow_add-result : goal.overflow_add-result
overflow_add-result c =
    let fits : prefix_len is_register_byte c.in-Some.name.now < length c.args.text.now = marked_fits 37 is_register_byte c.args.text.now c.in-Some.name.now c.in-Some.ensures.some in
    omega arith

pub returns-then-run-eq0 : goal.returns-then-run-eq0
unfolding is_register
returns-then-run-eq0 c = marked_empty 37 is_register_byte c.args.text.now c.in-Some.name.now c.in-Some.ensures.some (sym c.register_run-run.ensures ∙ c.if-run-eq0.true)

pub returns-else-run-eq0 : goal.returns-else-run-eq0
unfolding is_register
returns-else-run-eq0 c = marked_some 37 is_register_byte c.args.text.now c.in-Some.name.now c.register_run-run.result c.in-Some.ensures.some c.register_run-run.ensures c.if-run-eq0.false
