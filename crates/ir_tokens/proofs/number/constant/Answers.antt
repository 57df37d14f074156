use Rattle.ir_tokens.proofs.Common.{◌∙◌, ◌≤◌, sym, arith}
use Rattle.ir_tokens.proofs.Ranges.{no_constant}
use Rattle.ir_tokens.proofs.number.constant.Goals as goal

pub returns-in_err-number : goal.returns-in_err-number
returns-in_err-number c =
    let wide : c.args.width ≤ 64 = omega arith in
    c.from_residual.ensures ∙ sym (no_constant c.args.digits.now c.args.width wide c.in_err-number.ensures.none)
