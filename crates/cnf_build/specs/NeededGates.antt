-- Which of the constant and the gates of a graph a root needs: those in its cone of influence.
use Rattle.std.specs.Prelude.{◌≡◌, ℕ, ◌<◌, ◌⊎◌, Bool, true, false, List, length, Some, slice_get, slice_set, slice_index_or}
use Rattle.aig.specs.declared.literal.Node.{Node}
use Rattle.aig.specs.declared.literal.Node.TheVariants.{One, Input, Output}
use Rattle.aig.specs.Literal.{Literal}
use Rattle.aig.specs.declared.gate.Gate.{Gate}
use Rattle.aig.specs.declared.gate.Gate.TheVariants.{And, Xor, Mux}

-- marks on the constant and on the gates, in order
pub record NeededMarks : Type 0 where
  pub one : Bool
  pub gates : List Bool

-- the node is no gate, or one of the first `count` gates
abbrev pub OutputBelow : ℕ → Node → Type 0
OutputBelow count One = Unit {0}
OutputBelow count (Input k) = Unit {0}
OutputBelow count (Output k) = k < count

-- each operand of the gate is no gate, or one of the first `count` gates
abbrev pub OperandsBelow : ℕ → Gate → Type 0
OperandsBelow count (And a b) = OutputBelow count a.node × OutputBelow count b.node
OperandsBelow count (Xor a b) = OutputBelow count a.node × OutputBelow count b.node
OperandsBelow count (Mux c a b) = OutputBelow count c.node × OutputBelow count a.node × OutputBelow count b.node

-- the node is marked; an input never is
abbrev pub IsMarked : NeededMarks → Node → Type 0
IsMarked marks One = marks.one ≡ true
IsMarked marks (Input k) = ⊥
IsMarked marks (Output k) = slice_index_or marks.gates k false ≡ true

-- the node is an input, or it is marked
abbrev pub IsCovered : NeededMarks → Node → Type 0
IsCovered marks One = marks.one ≡ true
IsCovered marks (Input k) = Unit {0}
IsCovered marks (Output k) = slice_index_or marks.gates k false ≡ true

-- the marks with this node marked too, if it is no input
abbrev pub with_node : NeededMarks → Node → NeededMarks
with_node marks One = record marks { one = true }
with_node marks (Input k) = marks
with_node marks (Output k) = record marks { gates = slice_set marks.gates k true }

-- the marks with the gate's operands marked too
abbrev pub with_operands : NeededMarks → Gate → NeededMarks
with_operands marks (And a b) = with_node (with_node marks a.node) b.node
with_operands marks (Xor a b) = with_node (with_node marks a.node) b.node
with_operands marks (Mux c a b) = with_node (with_node (with_node marks c.node) a.node) b.node

-- the node is an operand of the gate
abbrev pub IsOperand : Node → Gate → Type 0
IsOperand node (And a b) = (a.node ≡ node) ⊎ (b.node ≡ node)
IsOperand node (Xor a b) = (a.node ≡ node) ⊎ (b.node ≡ node)
IsOperand node (Mux c a b) = (c.node ≡ node) ⊎ ((a.node ≡ node) ⊎ (b.node ≡ node))

-- the marks are closed: each operand of a marked gate is covered
abbrev pub IsClosed : List Gate → NeededMarks → Type 0
IsClosed gates marks =
    (k : ℕ) (gate : Gate) → slice_get gates k ≡ Some gate → IsMarked marks (Output k) →
    (node : Node) → IsOperand node gate → IsCovered marks node

-- the node is the root's, or an operand of a marked gate
abbrev pub IsAskedFor : List Gate → Literal → NeededMarks → Node → Type 0
IsAskedFor gates root marks node =
    (root.node ≡ node)
    ⊎ ((k : ℕ) × (gate : Gate) × (slice_get gates k ≡ Some gate) × IsMarked marks (Output k) × IsOperand node gate)

-- exactly what the root needs is marked: its own node, and the operands of each gate that it needs
pub record AreNeeded (gates : List Gate) (root : Literal) (marks : NeededMarks) : Type 0 where
  pub count : length marks.gates ≡ length gates
  pub root_covered : IsCovered marks root.node
  pub closed : IsClosed gates marks
  pub asked_for : (node : Node) → IsMarked marks node → IsAskedFor gates root marks node
