-- What holds of every rule.
use Rattle.std.specs.Prelude.{◌≡◌, ◌⊎◌}
use Rattle.rule_core.specs.declared.rule.Rule.{Rule}
use Rattle.rule_typing.specs.declared.classes.ClassFault.{ClassFault}
use Rattle.rule_typing.specs.Classes.{IsClassified}
use Rattle.rule_typing.specs.Faults.{IsFault, HasNoFault}
use Rattle.rule_typing.specs.Relabelled.{numbered}

-- for each rule there is one that differs in nothing but the numbers of its classes, and is classified; it has no fault
-- or one
abbrev pub RulesHaveClasses : Type 0
RulesHaveClasses =
    (rule : Rule) → (classified : Rule) × (numbered classified ≡ numbered rule) × IsClassified classified
    × (HasNoFault classified ⊎ ((fault : ClassFault) × IsFault classified fault))
