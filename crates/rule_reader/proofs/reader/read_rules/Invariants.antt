-- the rules so far are those of the first rules as written
use Rattle.rule_reader.proofs.Reading.{AreFirstRules}
use Rattle.rule_reader.proofs.reader.read_rules.Given as goal

abbrev pub invariant-loop-place : goal.invariant-loop-place
invariant-loop-place l = AreFirstRules l.raws.items l.place l.rules.items
