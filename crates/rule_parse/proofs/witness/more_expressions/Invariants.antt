use Rattle.rule_parse.proofs.Common.{◌≡◌, length, seen, more_expressions, rule_limits}
use Rattle.rule_parse.proofs.witness.more_expressions.Given as goal

abbrev pub invariant-loop-alloc : goal.invariant-loop-alloc
invariant-loop-alloc l = more_expressions rule_limits l.line l.expressions (seen l.tokens.now) ≡ more_expressions rule_limits l.line l.fn.expressions (seen l.fn.tokens.now)

abbrev pub decreases-loop-alloc : goal.decreases-loop-alloc
decreases-loop-alloc l = length (seen l.tokens.now)
