use Rattle.ir_tokens.proofs.Common.{arith}
use Rattle.ir_tokens.proofs.Decimals.{value_past, whole_value}
use Rattle.ir_tokens.proofs.number.decimal_number.Goals as goal

pub returns-in_err-checked_mul : goal.returns-in_err-checked_mul
returns-in_err-checked_mul c =
    let p = value_past c.args.digits.now c.loop-digit.digit-index c.loop-digit-test.true in
    rw c.from_residual.ensures (λ small. c.in_err-checked_mul.ensures (omega (arith, c.loop-digit.invariant)))

pub returns-in_err-number : goal.returns-in_err-number
returns-in_err-number c =
    let p = value_past c.args.digits.now c.loop-digit.digit-index c.loop-digit-test.true in
    rw c.from_residual-in_err-number.ensures (λ small. c.in_err-number.ensures (omega (arith, c.loop-digit.invariant, c.in_ok-checked_mul.ensures)))

pub returns : goal.returns
returns c =
    let e = whole_value c.args.digits.now c.loop-digit.digit-index c.loop-digit-test.false in
    (omega (arith, c.loop-digit.invariant), omega (arith, c.loop-digit.invariant))
