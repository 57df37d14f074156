use Rattle.rule_parse.proofs.Common.{◌≡◌, length, no_flags, flags_at, seen}
use Rattle.rule_parse.proofs.op.flags.Given as goal

abbrev pub invariant-loop-flag : goal.invariant-loop-flag
invariant-loop-flag l = flags_at l.taken l.line l.flags (seen l.tokens.now) ≡ flags_at l.taken l.line no_flags (seen l.fn.tokens.now)

abbrev pub decreases-loop-flag : goal.decreases-loop-flag
decreases-loop-flag l = length (seen l.tokens.now)
