use Rattle.scan.proofs.Common.{sym, ◌∙◌, take_rest}
use Rattle.scan.proofs.NameLemmas.{quoted_none, quoted_some, quoted_open}
use Rattle.scan.proofs.ir.name.quoted.Goals as goal

pub returns-in_default : goal.returns-in_default
returns-in_default c = quoted_none c.args.text.now c.in_default.ensures.none

pub returns-then-begins_byte : goal.returns-then-begins_byte
returns-then-begins_byte c = quoted_some c.args.text.now c.in-Some.inner.now c.quotable_run-run.result c.in-Some.ensures.some c.quotable_run-run.ensures.value (rw take_rest at (sym c.begins_byte.ensures ∙ c.if-begins_byte.true))

pub returns-else-begins_byte : goal.returns-else-begins_byte
returns-else-begins_byte c = quoted_open c.args.text.now c.in-Some.inner.now c.quotable_run-run.result c.in-Some.ensures.some c.quotable_run-run.ensures.value (rw take_rest at (sym c.begins_byte.ensures ∙ c.if-begins_byte.false))
