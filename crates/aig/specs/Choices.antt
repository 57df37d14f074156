-- What a choice between two literals by a third (a multiplexer) folds to.
use Rattle.std.specs.Prelude.{◌≡◌, ℕ, Bool, true, not, ◌&&◌, if◌then◌else◌}
use Rattle.std.specs.Bool.{xor}
use Rattle.aig.specs.declared.literal.Node.{Node}
use Rattle.aig.specs.declared.literal.Node.TheVariants.{One}
use Rattle.aig.specs.declared.folding.Choice.{Choice}
use Rattle.aig.specs.declared.folding.Choice.TheVariants.{Known, Both, NotBoth, OneOf, Open}
use Rattle.aig.specs.Literal.{Literal, value_under}
use Rattle.aig.specs.Gate.{AreApart}
use Rattle.aig.specs.Graph.{IsAmong}

-- the function of the nodes' values is the choice: the first of the two literals where the condition is true, else the
-- second
abbrev pub IsChosen : Literal → Literal → Literal → ((Node → Bool) → Bool) → Type 0
IsChosen c a b value =
    (values : Node → Bool) → values One ≡ true →
    value values ≡ (if value_under values c then value_under values a else value_under values b)

-- both literals are any graph's own that has the nodes of these three
abbrev pub AreOver : Literal → Literal → Literal → Literal → Literal → Type 0
AreOver c a b x y =
    (inputs gates : ℕ) → IsAmong inputs gates c.node → IsAmong inputs gates a.node → IsAmong inputs gates b.node →
    IsAmong inputs gates x.node × IsAmong inputs gates y.node

-- What was found has the value of the choice. Where nothing was found, the three literals have different nodes, none of
-- them the constant.
abbrev pub IsChoice : Literal → Literal → Literal → Choice → Type 0
IsChoice c a b (Known l) = IsChosen c a b (λ values. value_under values l) × AreOver c a b l l
IsChoice c a b (Both x y) = IsChosen c a b (λ values. value_under values x && value_under values y) × AreOver c a b x y
IsChoice c a b (NotBoth x y) = IsChosen c a b (λ values. not (value_under values x && value_under values y)) × AreOver c a b x y
IsChoice c a b (OneOf x y) = IsChosen c a b (λ values. xor (value_under values x) (value_under values y)) × AreOver c a b x y
IsChoice c a b Open = AreApart c.node a.node × AreApart c.node b.node × AreApart a.node b.node
