use Rattle.known_bits.proofs.Common.{◌≡◌, ◌+◌, ◌-◌, ◌/◌, ◌<◌, ◌^◌, ap, ◌∙◌, arith}
use Rattle.known_bits.proofs.KnownNumbers.{number_known, ones_shifted}
use Rattle.known_bits.proofs.words.Known.of_number.Goals as goal

pub overflow_sub-result : goal.overflow_sub-result
overflow_sub-result c =
    let whole : 18446744073709551615 / 2 ^ (64 - c.bits.result) + 1 ≡ 2 ^ c.bits.result = ones_shifted c.bits.result c.bits.ensures.at_most_64 in
    let width : 2 ^ c.bits.result ≡ 2 ^ c.args.number.width = ap (λ w. 2 ^ w) (c.bits.ensures.bits ∙ c.width.ensures) in
    omega (arith, whole, width, c.number.ensures.fits)

pub returns : goal.returns
returns c =
    let whole : 18446744073709551615 / 2 ^ (64 - c.bits.result) + 1 ≡ 2 ^ c.args.number.width =
    ones_shifted c.bits.result c.bits.ensures.at_most_64 ∙ ap (λ w. 2 ^ w) (c.bits.ensures.bits ∙ c.width.ensures) in
    let below : c.args.number.number < 2 ^ c.args.number.width = omega (arith, c.number.ensures.number, c.number.ensures.fits) in
    number_known c.args.number (18446744073709551615 / 2 ^ (64 - c.bits.result)) c.number.result c.number-2.result below whole c.number.ensures.number c.number-2.ensures.number
