use Rattle.rule_tokens.proofs.Common.{◌≡◌, ◌-◌, ◌^◌, min, take, decimal_value}
use Rattle.rule_tokens.proofs.number.magnitude.Given as goal

abbrev pub invariant-loop-digit : goal.invariant-loop-digit
invariant-loop-digit l = l.number ≡ min (decimal_value (take l.digit-index l.digits)) (2 ^ 128 - 1)
