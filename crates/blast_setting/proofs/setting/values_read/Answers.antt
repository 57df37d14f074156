use Rattle.blast_setting.proofs.Common.{◌≡◌, length, Some, refl, arith, slice_get, value_bits, value_read, slice_get_read}
use Rattle.blast_setting.proofs.ReadOn.{read_next, read_all, behind_all}
use Rattle.blast_setting.proofs.setting.values_read.Goals as goal

pub loop-width-preserved : goal.loop-width-preserved
loop-width-preserved c =
    let widths = c.args.widths.now in
    let at : slice_get widths c.loop-width.width-index ≡ Some c.width-item.result = slice_get_read widths (length widths) c.loop-width.width-index c.width-item.result refl c.loop-width-test.true c.width-item.is in
    read_next value_read value_bits widths c.args.bits.now c.loop-width.values _ c.value_read.result c.loop-width.width-index c.width-item.result _ c.loop-width.rest.now _ at c.loop-width.invariant c.value_read.ensures c.in_ok-push.ensures.ok
    (omega arith) c.after-rest.ensures

pub returns-clause-values : goal.returns-clause-values
returns-clause-values c =
    let widths = c.args.widths.now in
    read_all value_read value_bits widths c.args.bits.now c.loop-width.values c.loop-width.width-index c.loop-width.rest.now c.loop-width.invariant c.loop-width-test.false

pub returns-clause-rest : goal.returns-clause-rest
returns-clause-rest c =
    let widths = c.args.widths.now in
    behind_all value_read value_bits widths c.args.bits.now c.loop-width.values c.loop-width.width-index c.loop-width.rest.now c.loop-width.invariant c.loop-width-test.false
