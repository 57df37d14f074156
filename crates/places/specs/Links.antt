-- Doubly linked lists of the numbers of a block, with the node of each number at its index.
use Rattle.std.specs.Prelude.{◌≡◌, ℕ, zero, suc, ◌+◌, ◌-◌, ◌*◌, ◌<◌, ◌≤◌, ◌==◌, if◌then◌else◌, List, [], ◌∷◌, length, Contains, slice_index_or, slice_set}
use Rattle.places.specs.Orders.{none}
use Rattle.places.specs.declared.node.Node.{Node}

-- the node that is read for no number
abbrev pub no_node : Node
no_node = record { label = 0; before = none; after = none }

abbrev pub node_of : List Node → ℕ → Node
node_of nodes n = slice_index_or nodes n no_node

-- the link `at` is to n, which links back to `before`, and whose label is above that of `before` by more than `apart`
pub record IsNext (nodes : List Node) (apart before at n : ℕ) : Type 0 where
  pub is : at ≡ n
  pub within : n < length nodes
  pub back : (node_of nodes n).before ≡ before
  pub up : (node_of nodes before).label + apart < (node_of nodes n).label

-- from the link `at` on the list is these numbers, behind `before`: they are linked forwards and backwards, and each
-- label is above the one before it by more than `apart`
abbrev pub AreLinked : List Node → ℕ → ℕ → ℕ → List ℕ → Type 0
AreLinked nodes apart before at [] = at ≡ none
AreLinked nodes apart before at (n ∷ numbers) = IsNext nodes apart before at n × AreLinked nodes apart n (node_of nodes n).after numbers

-- The list from `first` on is these numbers, each number of a node once, and each label is above the one before it by
-- more than `apart`.
pub record IsListing (nodes : List Node) (apart first : ℕ) (numbers : List ℕ) : Type 0 where
  pub few : length nodes ≤ none
  pub many : length numbers ≡ length nodes
  pub all : (n : ℕ) → n < length nodes → Contains numbers n
  pub linked : AreLinked nodes apart none first numbers

-- the numbers along the forward links from `at` on, at most so many
abbrev pub walked : List Node → ℕ → ℕ → List ℕ
walked nodes zero at = []
walked nodes (suc many) at = if at == none then [] else at ∷ walked nodes many (node_of nodes at).after

-- the numbers along the forward links from the first on
abbrev pub numbers_from : List Node → ℕ → List ℕ
numbers_from nodes first = walked nodes (length nodes) first

-- the node of number k in a new list of so many numbers in ascending order, with labels that are `gap` apart
abbrev pub first_node_at : ℕ → ℕ → ℕ → Node
first_node_at count gap k = record { label = (k + 1) * gap; before = (if k == 0 then none else k - 1); after = (if k + 1 == count then none else k + 1) }

abbrev pub with_label : List Node → ℕ → ℕ → List Node
with_label nodes n label = slice_set nodes n (record { label = label; before = (node_of nodes n).before; after = (node_of nodes n).after })

abbrev pub with_before : List Node → ℕ → ℕ → List Node
with_before nodes n before = slice_set nodes n (record { label = (node_of nodes n).label; before = before; after = (node_of nodes n).after })

abbrev pub with_after : List Node → ℕ → ℕ → List Node
with_after nodes n after = slice_set nodes n (record { label = (node_of nodes n).label; before = (node_of nodes n).before; after = after })

-- the two neighbours of number m link to it: `at` back, and `before` forward
abbrev pub linked_in : List Node → ℕ → ℕ → ℕ → List Node
linked_in nodes at before m = with_after (with_before nodes at m) before m
