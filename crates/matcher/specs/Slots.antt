-- Slots for what a match binds, which are filled from the root down.
use Rattle.std.specs.Prelude.{◌≡◌, ℕ, ◌+◌, ◌<◌, ◌≤◌, List, length, map, Option, Some, All, slice_get}
use Rattle.ir_core.specs.Reads.{Read, IsRead}
use Rattle.ir_core.specs.declared.function.Function.{Function}
use Rattle.rule_core.specs.Positions.{Fixed, operands_of}
use Rattle.rule_core.specs.declared.rule.Argument.{Argument}
use Rattle.rule_core.specs.declared.rule.Argument.TheVariants as arguments
use Rattle.rule_core.specs.declared.rule.Op.{Op}
use Rattle.rule_core.specs.declared.rule.Operand.{Operand as RuleOperand}
use Rattle.rule_core.specs.declared.rule.Register.TheVariants as names
use Rattle.rule_core.specs.declared.rule.Rule.{Rule}
use Rattle.rule_core.specs.declared.rule.Statement.{Statement}
use Rattle.rule_typing.specs.Classes.{HasClasses}
use Rattle.bindings.specs.Operands.{OperandMatches}
use Rattle.bindings.specs.declared.binding.Binding.{Binding}
use Rattle.matcher.specs.declared.slots.Slots.{Slots}

-- slot i is filled with the i-th of these values
abbrev pub Knows : {T : Type 0} → List (Option T) → List T → ℕ → Type 0
Knows {T} slots values i = slice_get slots i ≡ Some (slice_get values i)

-- the slot of a name is filled with what the binding has
abbrev pub KnowsName : Slots → Binding → Argument → Type 0
KnowsName slots m (arguments.Register (names.Input i)) = Knows slots.inputs.items m.inputs i
KnowsName slots m (arguments.Register (names.Source j)) = Knows slots.statements.items m.statements j
KnowsName slots m (arguments.Register (names.Target j)) = Unit {0}
KnowsName slots m (arguments.Constant k) = Knows slots.constants.items m.constants k
KnowsName slots m (arguments.Literal z) = Unit {0}
KnowsName slots m (arguments.Truth b) = Unit {0}
KnowsName slots m (arguments.Undef k) = Unit {0}
KnowsName slots m (arguments.Term n) = Unit {0}

-- and so is that of the operand's class
abbrev pub KnowsOperand : Slots → Binding → RuleOperand → Type 0
KnowsOperand slots m o = Knows slots.widths.items m.typing o.class × KnowsName slots m o.value

-- the slots of a statement's class and operands are filled with what the binding has
abbrev pub KnowsStatement : Slots → Binding → Statement → Type 0
KnowsStatement slots m s = Knows slots.widths.items m.typing s.class × All (KnowsOperand slots m) (operands_of s.op)

-- slots that were filled with what the binding has still are
pub record Keeps (m : Binding) (old new : Slots) : Type 0 where
  pub statements : (j : ℕ) → Knows old.statements.items m.statements j → Knows new.statements.items m.statements j
  pub inputs : (i : ℕ) → Knows old.inputs.items m.inputs i → Knows new.inputs.items m.inputs i
  pub constants : (k : ℕ) → Knows old.constants.items m.constants k → Knows new.constants.items m.constants k
  pub widths : (c : ℕ) → Knows old.widths.items m.typing c → Knows new.widths.items m.typing c

-- there are as many slots as before
pub record AreAsMany (old new : Slots) : Type 0 where
  pub statements : length new.statements.items ≡ length old.statements.items
  pub inputs : length new.inputs.items ≡ length old.inputs.items
  pub constants : length new.constants.items ≡ length old.constants.items
  pub widths : length new.widths.items ≡ length old.widths.items

-- there is a slot for the name
abbrev pub HasName : Slots → Argument → Type 0
HasName slots (arguments.Register (names.Input i)) = i < length slots.inputs.items
HasName slots (arguments.Register (names.Source j)) = j < length slots.statements.items
HasName slots (arguments.Register (names.Target j)) = Unit {0}
HasName slots (arguments.Constant k) = k < length slots.constants.items
HasName slots (arguments.Literal z) = Unit {0}
HasName slots (arguments.Truth b) = Unit {0}
HasName slots (arguments.Undef k) = Unit {0}
HasName slots (arguments.Term n) = Unit {0}

abbrev pub HasOperand : Slots → RuleOperand → Type 0
HasOperand slots o = (o.class < length slots.widths.items) × HasName slots o.value

abbrev pub HasStatement : Slots → Statement → Type 0
HasStatement slots s = (s.class < length slots.widths.items) × All (HasOperand slots) (operands_of s.op)

-- there are slots for all that the rule's source names
pub record AreSlotsOf (rule : Rule) (slots : Slots) : Type 0 where
  pub statements : length slots.statements.items ≡ length rule.source
  pub inputs : length slots.inputs.items ≡ length rule.inputs
  pub constants : length slots.constants.items ≡ length rule.constants
  pub widths : HasClasses rule (length slots.widths.items)
  pub each : All (HasStatement slots) rule.source

-- the slots of the root, of fixed widths, and of the source statements from j on are filled with what the binding has
pub record KnowsFrom (rule : Rule) (j : ℕ) (slots : Slots) (m : Binding) : Type 0 where
  pub root : (k : ℕ) → k + 1 ≡ length rule.source → Knows slots.statements.items m.statements k
  pub fixed : (c N : ℕ) → Fixed rule c N → Knows slots.widths.items m.typing c
  pub statements : (k : ℕ) (s : Statement) → j ≤ k → slice_get rule.source k ≡ Some s → KnowsStatement slots m s

-- the operands that an instruction reads match those of an operation
abbrev pub OperandsMatch : Function → Binding → ℕ → ℕ → Op → Type 0
OperandsMatch f m b p op = (i : ℕ) (o : RuleOperand) → slice_get (operands_of op) i ≡ Some o → (r : Read) × IsRead f b p i r × OperandMatches m o r

-- the slots are filled as a binding has it
pub record IsFilledAs (slots : Slots) (m : Binding) : Type 0 where
  pub statements : slots.statements.items ≡ map Some m.statements
  pub inputs : slots.inputs.items ≡ map Some m.inputs
  pub constants : slots.constants.items ≡ map Some m.constants
  pub widths : slots.widths.items ≡ map Some m.typing
