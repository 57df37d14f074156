-- Graphs of gates over inputs (and-inverter graphs, with two more kinds of gate), and the values of their literals.
use Rattle.std.specs.Prelude.{◌≡◌, ℕ, ◌<◌, Bool, true, false, ◌&&◌, if◌then◌else◌, List, [], ◌∷◌, ◌++◌, length, fold, Some, slice_get, slice_index_or}
use Rattle.std.specs.Bool.{xor}
use Rattle.circuits.specs.Kleene.{certain}
use Rattle.circuits.specs.declared.state.State.{Ghosts}
use Rattle.aig.specs.declared.literal.Node.{Node}
use Rattle.aig.specs.declared.literal.Node.TheVariants.{One, Input, Output}
use Rattle.aig.specs.declared.gate.Gate.{Gate}
use Rattle.aig.specs.declared.gate.Gate.TheVariants.{And, Xor, Mux}
use Rattle.aig.specs.Literal.{Literal, value_under}
use Rattle.aig.specs.Gate.{IsProper}

-- a graph: how many inputs were made, and the gates in the order in which they were made
pub record Graph : Type 0 where
  pub inputs : ℕ
  pub gates : List Gate

-- the node is the constant, one of the first `inputs` inputs or the output of one of the first `gates` gates
abbrev pub IsAmong : ℕ → ℕ → Node → Type 0
IsAmong inputs gates One = Unit {0}
IsAmong inputs gates (Input k) = k < inputs
IsAmong inputs gates (Output k) = k < gates

-- the literal is the graph's own: its node is one of the graph's
abbrev pub IsOwn : Graph → Literal → Type 0
IsOwn graph l = IsAmong graph.inputs (length graph.gates) l.node

-- each operand's node is the constant, one of the first `inputs` inputs or the output of one of the first `gates` gates
abbrev pub OperandsAmong : ℕ → ℕ → Gate → Type 0
OperandsAmong inputs gates (And a b) = IsAmong inputs gates a.node × IsAmong inputs gates b.node
OperandsAmong inputs gates (Xor a b) = IsAmong inputs gates a.node × IsAmong inputs gates b.node
OperandsAmong inputs gates (Mux c a b) = IsAmong inputs gates c.node × IsAmong inputs gates a.node × IsAmong inputs gates b.node

-- the gates are in topological order: each gate's operands are older than the gate
abbrev pub IsInOrder : ℕ → List Gate → Type 0
IsInOrder inputs gates = (k : ℕ) (gate : Gate) → slice_get gates k ≡ Some gate → OperandsAmong inputs k gate

-- each gate is proper
abbrev pub AreProper : List Gate → Type 0
AreProper gates = (k : ℕ) (gate : Gate) → slice_get gates k ≡ Some gate → IsProper gate

-- no gate is there twice (structural hashing)
abbrev pub HasNoTwice : List Gate → Type 0
HasNoTwice gates =
    (j k : ℕ) (gate : Gate) → slice_get gates j ≡ Some gate → slice_get gates k ≡ Some gate → j ≡ k

-- A node's value under these values of the inputs and of the gates. An input without a value in the list is false.
abbrev pub node_value : List Bool → List Bool → Node → Bool
node_value inputs gates One = true
node_value inputs gates (Input k) = slice_index_or inputs k false
node_value inputs gates (Output k) = slice_index_or gates k false

-- a literal's value under these values of the inputs and of the gates: its node's, or the opposite where it is negated
abbrev pub literal_value : List Bool → List Bool → Literal → Bool
literal_value inputs gates l = value_under (node_value inputs gates) l

-- a gate's truth table over the values of its operands
abbrev pub gate_value : List Bool → List Bool → Gate → Bool
gate_value inputs gates (And a b) = literal_value inputs gates a && literal_value inputs gates b
gate_value inputs gates (Xor a b) = xor (literal_value inputs gates a) (literal_value inputs gates b)
gate_value inputs gates (Mux c a b) =
    if literal_value inputs gates c then literal_value inputs gates a else literal_value inputs gates b

-- the values of the gates in order, each by those of the older ones
abbrev pub gate_values : List Bool → List Gate → List Bool
gate_values inputs gates = fold (λ older gate. older ++ gate_value inputs older gate ∷ []) [] gates

-- a literal's value in a graph, under these values of the inputs
abbrev pub value_of : Graph → List Bool → Literal → Bool
value_of graph inputs l = literal_value inputs (gate_values inputs graph.gates) l

-- a graph as a circuit: it has values under every list of inputs
abbrev pub graph_state : Ghosts Graph Literal
graph_state = record {
  has_literal = IsOwn;
  admits = λ _ _. Unit {0};
  value = value_of;
  known = λ graph inputs l. certain (value_of graph inputs l);
  inputs_made = λ graph. graph.inputs;
  gates_made = λ graph. length graph.gates;
}
