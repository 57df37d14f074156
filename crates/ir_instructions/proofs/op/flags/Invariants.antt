use Rattle.ir_instructions.proofs.Common.{◌≡◌, length, seen, is_flag, flag_at, flags_at, repeat_at}
use Rattle.ir_instructions.proofs.op.flags.Given as goal

abbrev pub invariant-flags : goal.invariant-flags
invariant-flags l = repeat_at (is_flag l.taken) (flag_at l.taken) l.flags (seen l.tokens.now) ≡ flags_at l.taken (seen l.fn.tokens.now)

abbrev pub decreases-flags : goal.decreases-flags
decreases-flags l = length (seen l.tokens.now)
