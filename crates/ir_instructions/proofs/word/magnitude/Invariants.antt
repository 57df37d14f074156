use Rattle.ir_instructions.proofs.Common.{◌≡◌, ◌-◌, ◌^◌, min, take, decimal_value}
use Rattle.ir_instructions.proofs.word.magnitude.Given as goal

abbrev pub invariant-loop-digit : goal.invariant-loop-digit
invariant-loop-digit l = l.number ≡ min (decimal_value (take l.digit-index l.digits)) (2 ^ 32 - 1)
