-- The numbers of a linked list.
use Rattle.std.specs.Prelude.{ℕ, List}
use Rattle.places.specs.Links.{numbers_from}
use Rattle.places.specs.declared.links.Links.{Links}

-- the numbers in the order of the list
abbrev pub numbers_in : Links → List ℕ
numbers_in links = numbers_from links.nodes.items links.first
