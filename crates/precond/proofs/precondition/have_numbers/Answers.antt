use Rattle.precond.proofs.Common.{refl, arith, slice_get_read}
use Rattle.precond.proofs.Numbered.{none_refuses, one_more, all_numbers}
use Rattle.precond.proofs.precondition.have_numbers.Goals as goal

pub returns-in-Poison : goal.returns-in-Poison
returns-in-Poison c =
    none_refuses c.args.values.now c.loop-value.value-index c.value-item.result (slice_get_read c.args.values.now _ c.loop-value.value-index c.value-item.result refl c.loop-value-test.true c.value-item.is) c.in-Poison.is

pub loop-value-preserved : goal.loop-value-preserved
loop-value-preserved c =
    one_more c.args.values.now c.loop-value.value-index c.value-item.result c.in-Bits.field-0 c.loop-value.invariant
    (slice_get_read c.args.values.now _ c.loop-value.value-index c.value-item.result refl c.loop-value-test.true c.value-item.is) c.in-Bits.is

pub returns : goal.returns
returns c = all_numbers c.args.values.now c.loop-value.value-index (omega arith) c.loop-value.invariant
