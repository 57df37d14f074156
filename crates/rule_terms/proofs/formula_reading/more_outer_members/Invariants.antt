use Rattle.rule_terms.proofs.Common.{◌≡◌, length, seen, outer_member_at, more_members, rule_limits}
use Rattle.rule_terms.proofs.formula_reading.more_outer_members.Given as goal

abbrev pub invariant-loop-alloc : goal.invariant-loop-alloc
invariant-loop-alloc l =
    more_members (outer_member_at rule_limits l.line) l.nodes (seen l.tokens.now) ≡ more_members (outer_member_at rule_limits l.line) l.fn.nodes (seen l.fn.tokens.now)

abbrev pub decreases-loop-alloc : goal.decreases-loop-alloc
decreases-loop-alloc l = length (seen l.tokens.now)
