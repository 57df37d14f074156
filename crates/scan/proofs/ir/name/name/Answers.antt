use Rattle.scan.proofs.Common.{sym, ◌∙◌}
use Rattle.scan.proofs.FirstBytes.{digits_longest, plain_longest, quoted_longest}
use Rattle.scan.proofs.ir.name.name.Goals as goal

pub returns-then-begins_digit : goal.returns-then-begins_digit
returns-then-begins_digit c = digits_longest c.args.text.now c.digit_run.result (sym c.begins_digit.ensures ∙ c.if-begins_digit.true) c.digit_run.ensures

pub returns-then-begins_plain_name : goal.returns-then-begins_plain_name
returns-then-begins_plain_name c = plain_longest c.args.text.now c.name_run.result (sym c.begins_digit.ensures ∙ c.if-begins_digit.false) (sym c.begins_plain_name.ensures ∙ c.if-begins_plain_name.true) c.name_run.ensures.value

pub returns-else-begins_plain_name : goal.returns-else-begins_plain_name
returns-else-begins_plain_name c = quoted_longest c.args.text.now c.quoted.result (sym c.begins_digit.ensures ∙ c.if-begins_digit.false) (sym c.begins_plain_name.ensures ∙ c.if-begins_plain_name.false) c.quoted.ensures
