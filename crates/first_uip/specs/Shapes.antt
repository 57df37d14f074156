-- How many different literals a clause has, as far as watching asks: none, one or more.
use Rattle.std.specs.Prelude.{◌≡◌, true, List, [], All}
use Rattle.clauses.specs.Literal.{Lit}
use Rattle.clauses.specs.Propagation.{is_held}
use Rattle.first_uip.specs.declared.start.Shape.{Shape}
use Rattle.first_uip.specs.declared.start.Shape.TheVariants.{Empty, One, Several}

abbrev pub IsShape : List Lit → Shape → Type 0
IsShape clause Empty = clause ≡ []
IsShape clause (One l) = (is_held clause l ≡ true) × All (λ m. m ≡ l) clause
IsShape clause (Several first second) =
    (is_held clause first ≡ true) × (is_held clause second ≡ true) × ((first ≡ second) → ⊥)
