use Rattle.rule_terms.proofs.Common.{◌≡◌, ◌+◌, ◌*◌, ◌-◌, length, seen, behind_at, operand_at, primary_at, whole_chain_at, rule_limits}
use Rattle.rule_terms.proofs.reading.+terms.Given as goal

-- the measure of the recursion: a level of operators weighs 2, and one of nesting as much as all of these
abbrev pub decreases-primary : goal.decreases-primary
decreases-primary l = 17 * l.nesting

abbrev pub decreases-behind : goal.decreases-behind
decreases-behind l = 17 * l.nesting + 2 * l.level + 1

abbrev pub decreases-operand : goal.decreases-operand
decreases-operand l = 17 * l.nesting + 2 * l.level + 2

abbrev pub decreases-inside : goal.decreases-inside
decreases-inside l = 17 * l.nesting + 15

abbrev pub decreases-begun : goal.decreases-begun
decreases-begun l = 17 * l.nesting + 16

abbrev pub invariant-behind-loop-opcode : goal.invariant-behind-loop-opcode
invariant-behind-loop-opcode l =
    whole_chain_at (operand_at (primary_at rule_limits l.site.place l.site.line l.nesting) (l.level - 1)) l.level l.nodes (seen l.tokens.now)
    ≡ behind_at (primary_at rule_limits l.site.place l.site.line l.nesting) l.level l.fn.nodes (seen l.fn.tokens.now)

abbrev pub decreases-behind-loop-opcode : goal.decreases-behind-loop-opcode
decreases-behind-loop-opcode l = length (seen l.tokens.now)
