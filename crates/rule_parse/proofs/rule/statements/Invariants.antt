use Rattle.rule_parse.proofs.Common.{◌≡◌, ◌-◌, ◌≤◌, length, statements_at, seen, rule_limits}
use Rattle.rule_parse.proofs.Loops.{with_front}
use Rattle.rule_parse.proofs.rule.statements.Given as goal

abbrev pub invariant-loop-line : goal.invariant-loop-line
invariant-loop-line l =
    (length l.statements ≤ 32) × (with_front rule_limits l.version l.statements (statements_at rule_limits l.version (32 - length l.statements) l.half (seen l.tokens.now)) ≡ statements_at rule_limits l.version 32 l.half (seen l.fn.tokens.now))

abbrev pub decreases-loop-line : goal.decreases-loop-line
decreases-loop-line l = 32 - length l.statements
