-- Which texts are rule files.
use Rattle.std.specs.Prelude.{◌≤◌, ℕ, List, length}
use Rattle.rule_reader.specs.Faults.{IsRuleFile}
use Rattle.rule_reader.specs.Limits.{most_bytes}
use Rattle.verdict.specs.Rule.{Rule}

-- the text is a rule file of these rules, within the limit on its bytes
pub record IsRuleText (text : List ℕ) (rules : List Rule) : Type 0 where
  pub short : length text ≤ most_bytes
  pub file : IsRuleFile text rules
