use Rattle.rule_terms.proofs.Common.{◌≡◌, ◌+◌, ◌*◌, length, seen, member_at, more_members, more_alternatives, rule_limits}
use Rattle.rule_terms.proofs.formula_reading.+formula.Given as goal

-- the measure of the recursion: one level of nesting weighs more than all levels of operators
abbrev pub decreases-member : goal.decreases-member
decreases-member l = 8 * l.nesting

abbrev pub decreases-more_members : goal.decreases-more_members
decreases-more_members l = 8 * l.nesting + 1

abbrev pub decreases-members : goal.decreases-members
decreases-members l = 8 * l.nesting + 2

abbrev pub decreases-more_alternatives : goal.decreases-more_alternatives
decreases-more_alternatives l = 8 * l.nesting + 3

abbrev pub decreases-alternatives : goal.decreases-alternatives
decreases-alternatives l = 8 * l.nesting + 4

abbrev pub invariant-more_members-loop-alloc : goal.invariant-more_members-loop-alloc
invariant-more_members-loop-alloc l =
    more_members (member_at rule_limits l.nesting l.line) l.nodes (seen l.tokens.now) ≡ more_members (member_at rule_limits l.nesting l.line) l.fn.nodes (seen l.fn.tokens.now)

abbrev pub decreases-more_members-loop-alloc : goal.decreases-more_members-loop-alloc
decreases-more_members-loop-alloc l = length (seen l.tokens.now)

abbrev pub invariant-more_alternatives-loop-alloc : goal.invariant-more_alternatives-loop-alloc
invariant-more_alternatives-loop-alloc l =
    more_alternatives (member_at rule_limits l.nesting l.line) l.nodes (seen l.tokens.now)
    ≡ more_alternatives (member_at rule_limits l.nesting l.line) l.fn.nodes (seen l.fn.tokens.now)

abbrev pub decreases-more_alternatives-loop-alloc : goal.decreases-more_alternatives-loop-alloc
decreases-more_alternatives-loop-alloc l = length (seen l.tokens.now)
