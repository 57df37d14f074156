-- the counts of the statements so far
use Rattle.rule_reader.proofs.Common.{◌≡◌, take, past_all, counted_among, no_counts}
use Rattle.rule_reader.proofs.counts.in_half.Given as goal

abbrev pub invariant-loop-statement : goal.invariant-loop-statement
invariant-loop-statement l = l.counts ≡ past_all no_counts (counted_among (take l.statement-index l.statements))
