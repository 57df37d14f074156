use Rattle.blast_setting.proofs.Common.{◌≡◌, length, Some, refl, ◌∙◌, arith, mod-eq_of_lt, slice_get, number_bits, number_read, slice_get_read}
use Rattle.blast_setting.proofs.ReadOn.{read_next, read_all, behind_all}
use Rattle.blast_setting.proofs.setting.numbers_read.Goals as goal

pub loop-width-preserved : goal.loop-width-preserved
loop-width-preserved c =
    let widths = c.args.widths.now in
    let at : slice_get widths c.loop-width.width-index ≡ Some c.width-item.result = slice_get_read widths (length widths) c.loop-width.width-index c.width-item.result refl c.loop-width-test.true c.width-item.is in
    let small = mod-eq_of_lt c.number_read.ensures.fits in
    let is : c.wrapped.result ≡ number_read c.width-item.result c.loop-width.rest.now = c.wrapped.ensures ∙ rw (small, c.number_read.ensures.number) refl in
    read_next number_read number_bits widths c.args.bits.now c.loop-width.numbers _ c.wrapped.result c.loop-width.width-index c.width-item.result _ c.loop-width.rest.now _ at c.loop-width.invariant is c.in_ok-push.ensures.ok
    (omega arith) c.after-rest.ensures

pub returns-clause-numbers : goal.returns-clause-numbers
returns-clause-numbers c =
    let widths = c.args.widths.now in
    read_all number_read number_bits widths c.args.bits.now c.loop-width.numbers c.loop-width.width-index c.loop-width.rest.now c.loop-width.invariant c.loop-width-test.false

pub returns-clause-rest : goal.returns-clause-rest
returns-clause-rest c =
    let widths = c.args.widths.now in
    behind_all number_read number_bits widths c.args.bits.now c.loop-width.numbers c.loop-width.width-index c.loop-width.rest.now c.loop-width.invariant c.loop-width-test.false
