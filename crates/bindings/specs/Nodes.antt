-- Nodes of a rule's constant terms, in the form in which the code checks them.
use Rattle.std.specs.Prelude.{◌≡◌, ◌↔◌, ℕ, true, List, Some, Contains, slice_get}
use Rattle.rule_core.specs.TermNodes.{IsOperandOf}
use Rattle.rule_core.specs.declared.rule.Argument.{Argument}
use Rattle.rule_core.specs.declared.rule.Argument.TheVariants as arguments
use Rattle.rule_core.specs.declared.rule.Node.{Node}
use Rattle.rule_core.specs.declared.rule.Node.TheVariants as nodes
use Rattle.rule_core.specs.declared.rule.Operand.{Operand}
use Rattle.rule_core.specs.declared.rule.Register.TheVariants as names
use Rattle.bindings.specs.declared.nodes.Nodes.{Nodes}

-- the node with this index is in the set
abbrev pub Has : Nodes → ℕ → Type 0
Has set n = slice_get set.has n ≡ Some true

-- the set has exactly the nodes of which P holds
abbrev pub HasExactly : Nodes → (ℕ → Type 0) → Type 0
HasExactly set P = (n : ℕ) → Has set n ↔ P n

-- it has an operand of the node
abbrev pub HasOperandOf : Nodes → Node → Type 0
HasOperandOf set node = (a : ℕ) × IsOperandOf a node × Has set a

-- the node is the width of a register that a statement of the source assigns
abbrev pub IsTemporaryWidth : Node → Type 0
IsTemporaryWidth (nodes.Width (names.Source j) c) = Unit {0}
IsTemporaryWidth node = ⊥

-- an argument is a register that a statement of the source assigns, or a node of the set
abbrev pub NamesAmong : Nodes → Argument → Type 0
NamesAmong set (arguments.Register (names.Source j)) = Unit {0}
NamesAmong set (arguments.Term n) = Has set n
NamesAmong set argument = ⊥

-- one of these operands is
abbrev pub OneNamesAmong : Nodes → List Operand → Type 0
OneNamesAmong set operands = (o : Operand) × Contains operands o × NamesAmong set o.value
