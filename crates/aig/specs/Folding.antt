-- Literals that have the value of a gate, whatever values the nodes have: what gates fold to.
use Rattle.std.specs.Prelude.{◌≡◌, ℕ, Bool, true, ◌&&◌}
use Rattle.std.specs.Bool.{xor}
use Rattle.aig.specs.declared.literal.Node.{Node}
use Rattle.aig.specs.declared.literal.Node.TheVariants.{One}
use Rattle.aig.specs.Literal.{Literal, value_under}
use Rattle.aig.specs.Graph.{IsAmong}

-- the literal is the conjunction of these two, under all values of the nodes
abbrev pub IsAnd : Literal → Literal → Literal → Type 0
IsAnd a b l = (values : Node → Bool) → values One ≡ true → value_under values l ≡ (value_under values a && value_under values b)

-- the literal is the xor of these two, under all values of the nodes
abbrev pub IsXor : Literal → Literal → Literal → Type 0
IsXor a b l = (values : Node → Bool) → values One ≡ true → value_under values l ≡ xor (value_under values a) (value_under values b)

-- each graph that has these two nodes has the node of the literal
abbrev pub IsOver : Node → Node → Literal → Type 0
IsOver m n l = (inputs gates : ℕ) → IsAmong inputs gates m → IsAmong inputs gates n → IsAmong inputs gates l.node

-- the literal has this value wherever the condition has that one
abbrev pub HasValueWhere : Literal → Literal → Bool → Bool → Type 0
HasValueWhere l condition holds value =
    (values : Node → Bool) → values One ≡ true → value_under values condition ≡ holds → value_under values l ≡ value
