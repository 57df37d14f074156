-- the groups of the rules so far
use Rattle.rule_matches.proofs.Common.{take, AreByRoot}
use Rattle.rule_matches.proofs.roots.RulesByRoot.of.Given as goal

abbrev pub invariant-loop-place : goal.invariant-loop-place
invariant-loop-place l = AreByRoot (take l.place l.rules) l.all
