use Rattle.blast_setting.proofs.Common.{◌≡◌, ◌+◌, ◌*◌, ◌^◌, ◌<◌, ◌≤◌, sym, ap, ◌∙◌, add-one, arith, pow-succ', pow-le-pow_right, bit}
use Rattle.blast_setting.proofs.Words.{number-take_one}
use Rattle.blast_setting.proofs.setting.number_read.Goals as goal
use Rattle.blast_setting.proofs.setting.number_read.Goals.{then-bit_at, else-bit_at}

pub loop-i-preserved : goal.loop-i-preserved
loop-i-preserved c =
    let i = c.loop-i.i in
    let doubled : 2 ^ (i + 1) ≡ 2 * 2 ^ i = rw (add-one i) (pow-succ' 2 i) in
    let positive : 0 < 2 = omega arith in
    let last : i ≤ 63 = omega arith in
    let small : 2 ^ i ≤ 2 ^ 63 = pow-le-pow_right positive last in
    let more = number-take_one c.args.bits.now i in
    elim c.if-bit_at.branch [
      | then-bit_at w ↦
          let one = ap (λ b. 2 ^ i * bit b) (sym c.bit_at.ensures ∙ w.if-bit_at.true) in
          record { value = omega (arith, more, one, w.number-is, small, c.loop-i.invariant.value); fits = omega (arith, doubled, w.number-is, small, c.loop-i.invariant.fits) }
      | else-bit_at w ↦
          let none = ap (λ b. 2 ^ i * bit b) (sym c.bit_at.ensures ∙ w.if-bit_at.false) in
          record { value = omega (arith, more, none, w.number-is, small, c.loop-i.invariant.value); fits = omega (arith, doubled, w.number-is, small, c.loop-i.invariant.fits) }
    ]
