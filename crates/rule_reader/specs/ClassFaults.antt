-- The faults of a rule's classes.
use Rattle.std.specs.Prelude.{◌≡◌, ℕ}
use Rattle.rule_core.specs.declared.rule.Rule.{Rule}
use Rattle.rule_typing.specs.declared.classes.ClassFault.{ClassFault}
use Rattle.rule_typing.specs.Classes.{IsClassified}
use Rattle.rule_typing.specs.Faults.{IsFault, HasNoFault}
use Rattle.rule_typing.specs.Relabelled.{numbered}
use Rattle.rule_core.specs.Checks.{IsRule}
use Rattle.rule_tokens.specs.RuleFaults.{RuleFault}
use Rattle.rule_reader.specs.Faults.{kind_of, class_check}

-- the classified rule is this one with the numbers of its classes written, and its classes have no fault
pub record IsClassifiedAs (rule classified : Rule) : Type 0 where
  pub is_rule : IsRule classified
  pub rest : numbered classified ≡ numbered rule
  pub classes : IsClassified classified
  pub typed : HasNoFault classified

-- the rule's classes have this fault, which is told at the line
pub record IsClassFault (rule : Rule) (at : ℕ) (fault : RuleFault) : Type 0 where
  pub class_fault : ClassFault
  pub classified : Rule
  pub rest : numbered classified ≡ numbered rule
  pub classes : IsClassified classified
  pub is_fault : IsFault classified class_fault
  pub line : fault.line ≡ at
  pub kind : fault.kind ≡ kind_of (class_check class_fault)
