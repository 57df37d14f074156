use Rattle.known_bits.proofs.Common.{◌<◌, length, arith}
use Rattle.known_bits.proofs.Loops.{number_small}
use Rattle.known_bits.proofs.words.number_where.Goals as goal

pub overflow_mul-number : goal.overflow_mul-number
overflow_mul-number c =
    let inside : c.loop-i.i < length c.args.bits.now = omega arith in
    omega (arith, number_small c.args.value c.args.bits.now c.loop-i.i c.loop-i.number inside c.loop-i.invariant c.requires)

pub overflow_add-number : goal.overflow_add-number
overflow_add-number c =
    let inside : c.loop-i.i < length c.args.bits.now = omega arith in
    let small = number_small c.args.value c.args.bits.now c.loop-i.i c.loop-i.number inside c.loop-i.invariant c.requires in
    omega (arith, small, c.digit_where.ensures.small)
