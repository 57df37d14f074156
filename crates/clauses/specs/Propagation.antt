-- Unit propagation over numbered clauses (that of DPLL and of reverse unit propagation). The state is the list of the
-- literals that are held, that is, assigned true; a literal is false where its negation is held. A literal that stands
-- in a clause twice is one literal of it.
use Rattle.std.specs.Prelude.{◌≡◌, ◌≢◌, ℕ, Bool, true, false, List, [], ◌∷◌, ◌++◌, Some, slice_get, map, All, Any, Contains}
use Rattle.std.specs.List.{list_any}
use Rattle.clauses.specs.Literal.{Lit, negation_of, is_same}

-- whether the literal is held
abbrev pub is_held : List Lit → Lit → Bool
is_held held l = list_any (is_same l) held

-- whether it is false, that is, its negation is held
abbrev pub is_false : List Lit → Lit → Bool
is_false held l = is_held held (negation_of l)

-- each literal of the clause is false
abbrev pub IsFalsified : List Lit → List Lit → Type 0
IsFalsified held clause = All (λ l. is_false held l ≡ true) clause

-- The literal is unit in the clause: it stands in it and isn't false, and every other literal of the clause is false.
pub record IsUnit (held clause : List Lit) (l : Lit) : Type 0 where
  pub stands : Contains clause l
  pub not_false : is_false held l ≡ false
  pub others_false : All (λ m. m ≢ l → is_false held m ≡ true) clause

-- the number names a clause with all literals false
abbrev pub NamesFalse : List (List Lit) → List Lit → ℕ → Type 0
NamesFalse clauses held number = (clause : List Lit) × (slice_get clauses number ≡ Some clause) × IsFalsified held clause

-- the number names a clause in which the literal is unit
abbrev pub NamesUnit : List (List Lit) → List Lit → ℕ → Lit → Type 0
NamesUnit clauses held number l = (clause : List Lit) × (slice_get clauses number ≡ Some clause) × IsUnit held clause l

-- The derivation by these numbers, its moves, leads from the one state to the other: each number names a clause in
-- which a literal is unit, and that literal is then held.
abbrev pub Derives : List (List Lit) → List Lit → List ℕ → List Lit → Type 0
Derives clauses held [] after = held ≡ after
Derives clauses held (number ∷ numbers) after =
    (l : Lit) × NamesUnit clauses held number l × Derives clauses (l ∷ held) numbers after

-- The hints refute the state: all but the last are a derivation, and the last names a clause that then has all literals
-- false, a conflict.
abbrev pub HintsRefute : List (List Lit) → List Lit → List ℕ → Type 0
HintsRefute clauses held hints =
    (moves : List ℕ) × (last : ℕ) × (after : List Lit)
    × (hints ≡ moves ++ last ∷ []) × Derives clauses held moves after × NamesFalse clauses after last

-- some clause of the list has all literals false
abbrev pub SomeFalsified : List (List Lit) → List Lit → Type 0
SomeFalsified clauses held = Any (IsFalsified held) clauses

-- the state in which the negations of the literals are held
abbrev pub negations_of : List Lit → List Lit
negations_of clause = map negation_of clause
