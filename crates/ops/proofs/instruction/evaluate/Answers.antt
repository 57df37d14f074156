use Rattle.ops.proofs.Widths.{IsEffectOf-on_numbers, IsEffectOf-on_poison}
use Rattle.ops.proofs.instruction.evaluate.Goals as goal

pub returns-in_default-clause-width : goal.returns-in_default-clause-width
returns-in_default-clause-width c =
    rw c.on_poison.ensures
    (IsEffectOf-on_poison c.args.op c.args.width c.args.b)

pub returns-in_default-b-clause-width : goal.returns-in_default-b-clause-width
returns-in_default-b-clause-width c =
    rw c.on_poison-in_default-b.ensures
    (IsEffectOf-on_poison c.args.op c.args.width c.args.b)

pub returns-clause-width : goal.returns-clause-width
returns-clause-width c =
    let left_width = rw c.in-Bits.is at c.requires.left in
    let right_width = rw c.in-Bits-b.is at c.requires.right in
    rw c.on_numbers.ensures
    (IsEffectOf-on_numbers
    c.args.op
    c.args.flags
    c.args.width
    c.number.result
    c.number-2.result
    (rw left_width at c.number.ensures.fits)
    (rw right_width at c.number-2.ensures.fits))
