use Rattle.known_bits.proofs.Common.{◌<◌, ◌≤◌, length, map, ap, arith, length-map, binary_digits, certain}
use Rattle.known_bits.proofs.Numbers.{length_digits}
use Rattle.known_bits.proofs.Loops.{digit_more, digit_end}
use Rattle.known_bits.proofs.bits.digits.Goals as goal

pub loop-i-preserved : goal.loop-i-preserved
loop-i-preserved c =
    let N = c.args.number.width in
    let inside : c.loop-i._i < N = omega (arith, c.bits-i-end.ensures.bits, c.width.ensures) in
    rw (c.in_ok-push.ensures.ok, c.certain.ensures) (digit_more c.loop-i.bits (map certain (binary_digits N c.args.number.number)) N c.loop-i._i c.loop-i.rest inside c.loop-i.invariant)

pub returns-clause-few : goal.returns-clause-few
returns-clause-few c =
    let N = c.args.number.width in
    let over : N ≤ c.loop-i._i = omega (arith, c.bits-i-end.ensures.bits, c.width.ensures) in
    let is = digit_end c.loop-i.bits (map certain (binary_digits N c.args.number.number)) N c.loop-i._i c.loop-i.rest over c.loop-i.invariant in
    omega (arith, ap length is, length-map (binary_digits N c.args.number.number) certain, length_digits N c.args.number.number, c.bits-i-end.ensures.bits, c.bits-i-end.ensures.at_most_64, c.width.ensures)
