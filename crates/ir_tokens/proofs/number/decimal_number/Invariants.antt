use Rattle.ir_tokens.proofs.Common.{◌≡◌, ◌<◌, ◌^◌, take, decimal_value}
use Rattle.ir_tokens.proofs.number.decimal_number.Given as goal

abbrev pub invariant-loop-digit : goal.invariant-loop-digit
invariant-loop-digit l = (l.number ≡ decimal_value (take l.digit-index l.digits)) × (l.number < 2 ^ 64)
