-- What the conjunction of two literals folds to by the operands of their `and` gates, their parts.
use Rattle.std.specs.Prelude.{◌≡◌, ℕ, Bool, true, false, not, ◌&&◌}
use Rattle.aig.specs.declared.literal.Node.{Node}
use Rattle.aig.specs.declared.literal.Node.TheVariants.{One}
use Rattle.aig.specs.declared.two_levels.Parts.{Parts}
use Rattle.aig.specs.declared.two_levels.Parts.TheVariants.{Both, NotBoth, Whole}
use Rattle.aig.specs.Literal.{Literal, value_under}
use Rattle.aig.specs.Graph.{IsAmong}

-- the conjunction of both literals
abbrev pub both : (Node → Bool) → Literal → Literal → Bool
both values x y = value_under values x && value_under values y

-- the literal has the value that its parts give it
abbrev pub HasParts : (Node → Bool) → Literal → Parts → Type 0
HasParts values l (Both x y) = value_under values l ≡ both values x y
HasParts values l (NotBoth x y) = value_under values l ≡ not (both values x y)
HasParts values l Whole = Unit {0}

-- the nodes of the parts are the constant, one of so many inputs or the output of one of so many gates
abbrev pub PartsAmong : ℕ → ℕ → Parts → Type 0
PartsAmong inputs gates (Both x y) = IsAmong inputs gates x.node × IsAmong inputs gates y.node
PartsAmong inputs gates (NotBoth x y) = IsAmong inputs gates x.node × IsAmong inputs gates y.node
PartsAmong inputs gates Whole = Unit {0}

-- the literal is the conjunction of these two, wherever these have the values that their parts give
abbrev pub IsAndOfParts : Literal → Parts → Literal → Parts → Literal → Type 0
IsAndOfParts a parts b others l =
    (values : Node → Bool) → values One ≡ true → HasParts values a parts → HasParts values b others →
    value_under values l ≡ both values a b

-- each graph that has these two literals and their parts has the literal
abbrev pub IsOverParts : Literal → Parts → Literal → Parts → Literal → Type 0
IsOverParts a parts b others l =
    (inputs gates : ℕ) → IsAmong inputs gates a.node → IsAmong inputs gates b.node →
    PartsAmong inputs gates parts → PartsAmong inputs gates others → IsAmong inputs gates l.node

-- where the first two literals are both true, not both of the other two are
abbrev pub Exclude : Literal → Literal → Literal → Literal → Type 0
Exclude x y z w = (values : Node → Bool) → both values x y ≡ true → both values z w ≡ false

-- the literal is true exactly where not both of the first two are true, and not both of the other two
abbrev pub Resolves : Literal → Literal → Literal → Literal → Literal → Type 0
Resolves x y z w l = (values : Node → Bool) → value_under values l ≡ (not (both values x y) && not (both values z w))
