-- Rules by their names.
use Rattle.std.specs.Prelude.{◌≡◌, ℕ, List, Some, slice_get, MatchOption}
use Rattle.std.specs.Borrow.{Bor}
use Rattle.std.specs.Str.{bytes_eq}
use Rattle.indexmap.specs.IndexMap.{IndexMap, get}
use Rattle.rule_core.specs.declared.rule.Rule.{Rule}

-- the rule at the place has the name
abbrev pub HasNameAt : List Rule → ℕ → List ℕ → Type 0
HasNameAt rules place name = (rule : Rule) × (slice_get rules place ≡ Some rule) × (rule.name ≡ name)

-- one of the rules has the name
abbrev pub IsNamed : List Rule → List ℕ → Type 0
IsNamed rules name = (place : ℕ) × HasNameAt rules place name

-- the map has the place of a rule for each name of one, and no other names
abbrev pub ArePlaces : {S : Type 0} → List Rule → IndexMap (Bor (List ℕ)) ℕ S → Type 0
ArePlaces rules places =
    (name : Bor (List ℕ)) → MatchOption (get (λ a b. bytes_eq a.now b.now) places name) (¬ IsNamed rules name.now) (λ place. HasNameAt rules place name.now)
