-- The variables of the constant and of the gates that are marked, after those of the inputs.
use Rattle.std.specs.Prelude.{◌≡◌, ℕ, ◌+◌, ◌*◌, ◌<◌, ◌≤◌, Bool, true, false, List, [], ◌∷◌, ◌++◌, length, Some, slice_get, slice_index}
use Rattle.clauses.specs.Literal.{Lit}
use Rattle.aig.specs.declared.literal.Node.{Node}
use Rattle.aig.specs.declared.literal.Node.TheVariants.{One, Input, Output}
use Rattle.aig.specs.Literal.{Literal}
use Rattle.aig.specs.declared.gate.Gate.{Gate}
use Rattle.aig.specs.declared.gate.Gate.TheVariants as gates
use Rattle.aig.specs.Graph.{IsAmong}
use Rattle.cnf_build.specs.declared.definition.Definition.{Definition}
use Rattle.cnf_build.specs.declared.definition.Definition.TheVariants as definitions
use Rattle.cnf_build.specs.Definitions.{AreOverSmaller, clauses_from}
use Rattle.cnf_build.specs.NeededGates.{NeededMarks, IsMarked}

-- how many inputs there are, the variable of each gate, and the definitions of the variables after the inputs, in order
pub record Names : Type 0 where
  pub inputs : ℕ
  pub numbers : List ℕ
  pub definitions : List Definition

-- the variable of a node: the inputs have the first variables, and the constant the next one
abbrev pub variable_of : Names → Node → ℕ
variable_of names One = names.inputs + 1
variable_of names (Input k) = k + 1
variable_of names (Output k) = slice_index names.numbers k

-- a literal of the graph as a literal of its node's variable
abbrev pub lit_of : Names → Literal → Lit
lit_of names l = record { variable = variable_of names l.node; negated = l.negated }

-- a gate's definition, over the variables of its operands
abbrev pub definition_of : Names → Gate → Definition
definition_of names (gates.And a b) = definitions.And (lit_of names a) (lit_of names b)
definition_of names (gates.Xor a b) = definitions.Xor (lit_of names a) (lit_of names b)
definition_of names (gates.Mux c a b) = definitions.Mux (lit_of names c) (lit_of names a) (lit_of names b)

-- the constant gets its variable and its definition, if it is needed
abbrev pub with_constant : Names → Bool → Names
with_constant names true = record names { definitions = names.definitions ++ definitions.One ∷ [] }
with_constant names false = names

-- The next gate gets the next variable without a definition. If the gate is needed, it gets its definition too; else
-- the next gate gets the same variable.
abbrev pub with_gate : Names → Gate → Bool → Names
with_gate names gate true =
    record {
      inputs = names.inputs;
      numbers = names.numbers ++ (names.inputs + 1 + length names.definitions) ∷ [];
      definitions = names.definitions ++ definition_of names gate ∷ [];
    }
with_gate names gate false =
    record names { numbers = names.numbers ++ (names.inputs + 1 + length names.definitions) ∷ [] }

-- this is the definition of the node's variable
abbrev pub HasDefinition : Names → Node → Definition → Type 0
HasDefinition names node d =
    (j : ℕ) × (variable_of names node ≡ names.inputs + 1 + j) × (slice_get names.definitions j ≡ Some d)

-- of the constant and the first `count` gates, those that are marked have a variable with their definition, and nothing
-- else has one
pub record NamesFirst (all : List Gate) (marks : NeededMarks) (count : ℕ) (names : Names) : Type 0 where
  pub length_numbers : length names.numbers ≡ count
  pub length_definitions : length names.definitions ≤ count + 1
  pub few_clauses : (n : ℕ) → length (clauses_from n names.definitions) ≤ 4 * count + 1
  pub one_defined : marks.one ≡ true → HasDefinition names One definitions.One
  pub gates_defined :
      (k : ℕ) (gate : Gate) → k < count → slice_get all k ≡ Some gate → IsMarked marks (Output k) →
      HasDefinition names (Output k) (definition_of names gate)
  pub only_marked :
      (j : ℕ) → j < length names.definitions →
      (node : Node) × IsMarked marks node × (variable_of names node ≡ names.inputs + 1 + j) × IsAmong names.inputs count node
  pub over_smaller : AreOverSmaller (names.inputs + 1) names.definitions
  pub rising :
      (i k : ℕ) → i < k → k < count → IsMarked marks (Output i) → slice_index names.numbers i < slice_index names.numbers k
