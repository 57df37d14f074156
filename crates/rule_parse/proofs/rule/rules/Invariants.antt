use Rattle.rule_parse.proofs.Common.{◌≡◌, length, rules_of, seen, rule_limits}
use Rattle.rule_parse.proofs.Loops.{with_rules}
use Rattle.rule_parse.proofs.rule.rules.Given as goal

abbrev pub invariant-loop-rest : goal.invariant-loop-rest
invariant-loop-rest l = with_rules rule_limits l.version l.rules.items (rules_of rule_limits l.version l.last (seen l.rest)) ≡ rules_of rule_limits l.version l.last (seen l.tokens)

abbrev pub decreases-loop-rest : goal.decreases-loop-rest
decreases-loop-rest l = length (seen l.rest)
