-- Laws of all texts.
use Rattle.std.specs.Prelude.{◌≡◌, ◌⊎◌, ℕ, ◌≤◌, List, length}
use Rattle.rule_core.specs.declared.rule.Rule.{Rule}
use Rattle.rule_tokens.specs.RuleFaults.{RuleFault}
use Rattle.rule_reader.specs.Limits.{most_bytes}
use Rattle.rule_reader.specs.Faults.{IsRuleFile, IsFault}

-- a text has one list of rules or one fault, and within the limit never both
pub record TextsHaveOneListOrFault : Type 0 where
  pub some : (text : List ℕ) → ((rules : List Rule) × IsRuleFile text rules) ⊎ ((fault : RuleFault) × IsFault text fault)
  pub one_list : (text : List ℕ) (a b : List Rule) → IsRuleFile text a → IsRuleFile text b → a ≡ b
  pub one_fault : (text : List ℕ) (a b : RuleFault) → IsFault text a → IsFault text b → a ≡ b
  pub not_both : (text : List ℕ) (rules : List Rule) (fault : RuleFault) → length text ≤ most_bytes → IsRuleFile text rules → IsFault text fault → ⊥
