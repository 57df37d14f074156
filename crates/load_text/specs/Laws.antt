-- A law of all rule files.
use Rattle.std.specs.Prelude.{ℕ, ◌≤◌, List, length}
use Rattle.rule_reader.specs.Faults.{IsRuleFile}
use Rattle.verdict.specs.Rule.{Rule}

-- a text spells no more rules than it has bytes
abbrev pub RuleTextsAreSmall : Type 0
RuleTextsAreSmall = (text : List ℕ) (rules : List Rule) → IsRuleFile text rules → length rules ≤ length text
