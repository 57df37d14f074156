-- Rules as they are read from a file.
use Rattle.std.specs.Prelude.{◌≡◌, ℕ, List, Some, slice_get}
use Rattle.rule_core.specs.declared.rule.Rule.{Rule}
use Rattle.rule_core.specs.Checks.{IsRule}
use Rattle.rule_typing.specs.Classes.{IsClassified}
use Rattle.rule_typing.specs.Faults.{HasNoFault}

-- a rule that was read: it meets its checks, its classes are written, and it has a typing
pub record IsReady (rule : Rule) : Type 0 where
  pub checks : IsRule rule
  pub classes : IsClassified rule
  pub typed : HasNoFault rule

-- each of them is
abbrev pub AreReady : List Rule → Type 0
AreReady rules = (r : ℕ) (rule : Rule) → slice_get rules r ≡ Some rule → IsReady rule
