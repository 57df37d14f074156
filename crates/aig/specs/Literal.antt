-- Literals: a node of a graph, or its negation. A literal has a code, a number.
use Rattle.std.specs.Prelude.{◌≡◌, ℕ, ◌+◌, ◌-◌, ◌*◌, ◌/◌, ◌%◌, ◌==◌, Bool, not, if◌then◌else◌}
use Rattle.std.proofs.Common.{arith}
use Rattle.std.proofs.lemmas.Bool.Decides.{nat_tests}
use Rattle.aig.specs.declared.literal.Node.{Node}
use Rattle.aig.specs.declared.literal.Node.TheVariants.{One, Input, Output}

-- a node or, where `negated`, its negation
pub record Literal : Type 0 where
  pub node : Node
  pub negated : Bool

-- the place of a node: 0 of the constant, an odd number of an input, and an even one from 2 on of a gate's output
abbrev pub place_of : Node → ℕ
place_of One = 0
place_of (Input k) = 2 * k + 1
place_of (Output k) = 2 * k + 2

-- the code of a literal: twice the place of its node, and one more where it is negated
abbrev pub code_of : Literal → ℕ
code_of l = 2 * place_of l.node + (if l.negated then 1 else 0)

-- the node at a place
abbrev pub node_at : ℕ → Node
node_at place = if place == 0 then One else (if place % 2 == 0 then Output (place / 2 - 1) else Input (place / 2))

-- the literal that has this code
abbrev pub literal_at : ℕ → Literal
literal_at code = record { node = node_at (code / 2); negated = code % 2 == 1 }

-- the literal's negation
abbrev pub negation_of : Literal → Literal
negation_of l = record l { negated = not l.negated }

-- a literal's value under these values of the nodes: its node's, or the opposite where the literal is negated
abbrev pub value_under : (Node → Bool) → Literal → Bool
value_under values l = if l.negated then not (values l.node) else values l.node

place_of-node_at : (place : ℕ) → place_of (node_at place) ≡ place
place_of-node_at place = grind (arith, nat_tests)

-- each code is that of its literal
pub code_of-literal_at : (code : ℕ) → code_of (literal_at code) ≡ code
code_of-literal_at code = grind (arith, nat_tests, place_of-node_at (code / 2))
