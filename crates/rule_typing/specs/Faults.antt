-- Why the classes of a rule admit no typing that is worth a trial.
use Rattle.std.specs.Prelude.{ℕ, ◌≤◌, List, Contains}
use Rattle.rule_core.specs.declared.rule.Rule.{Rule}
use Rattle.rule_core.specs.Positions.{classes_of, Fixed}
use Rattle.rule_core.specs.Typing.{IsTyping}
use Rattle.rule_typing.specs.declared.classes.ClassFault.{ClassFault}
use Rattle.rule_typing.specs.declared.classes.ClassFault.TheVariants as faults
use Rattle.rule_typing.specs.Classes.{IsNamedInSource}

-- there are more than 8 classes, which are numbered from 0
abbrev pub HasTooManyClasses : Rule → Type 0
HasTooManyClasses rule = (c : ℕ) × Contains (classes_of rule) c × (8 ≤ c)

-- no widths are a typing
abbrev pub HasNoTyping : Rule → Type 0
HasNoTyping rule = (typing : List ℕ) → IsTyping rule typing → ⊥

-- a class has neither a name in the source, whose width a match would tell, nor a fixed width
abbrev pub IsOpen : Rule → ℕ → Type 0
IsOpen rule c = (¬ IsNamedInSource rule c) × ((N : ℕ) → ¬ Fixed rule c N)

abbrev pub HasOpenClass : Rule → Type 0
HasOpenClass rule = (c : ℕ) × Contains (classes_of rule) c × IsOpen rule c

-- the first of these faults, in this order
abbrev pub IsFault : Rule → ClassFault → Type 0
IsFault rule faults.TooMany = HasTooManyClasses rule
IsFault rule faults.NoType = ¬ HasTooManyClasses rule × HasNoTyping rule
IsFault rule faults.OpenType = ¬ HasTooManyClasses rule × ¬ HasNoTyping rule × HasOpenClass rule

-- the rule has none of these faults
pub record HasNoFault (rule : Rule) : Type 0 where
  pub few : ¬ HasTooManyClasses rule
  pub typed : ¬ HasNoTyping rule
  pub closed : ¬ HasOpenClass rule
