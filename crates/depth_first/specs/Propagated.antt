-- Unit propagation by occurrence lists: at which clauses it has nothing to do, and how far along the trail it has come.
use Rattle.std.specs.Prelude.{◌≡◌, ℕ, ◌+◌, ◌≤◌, ◌⊎◌, true, List, Some, length, slice_get}
use Rattle.clauses.specs.Literal.{Lit, negation_of}
use Rattle.clauses.specs.Propagation.{IsFalsified, IsUnit, is_held}
use Rattle.depth_first.specs.declared.trail.Entry.{Entry}
use Rattle.depth_first.specs.declared.propagation.Status.{Status}
use Rattle.depth_first.specs.declared.propagation.Status.TheVariants.{Propagated, Forces, Falsified}
use Rattle.depth_first.specs.TrailEntries.{literals, IsOpen}

-- Unit propagation has nothing to do at the clause: it isn't false, and a literal that is unit in it is held. So it is
-- satisfied, by a literal that is held, or unresolved, with two different literals that aren't false.
pub record IsPropagated (held clause : List Lit) : Type 0 where
  pub not_false : ¬ (IsFalsified held clause)
  pub forced_held : (l : Lit) → IsUnit held clause l → is_held held l ≡ true

abbrev pub AllPropagated : List (List Lit) → List Lit → Type 0
AllPropagated clauses held = (number : ℕ) (clause : List Lit) → slice_get clauses number ≡ Some clause → IsPropagated held clause

-- what unit propagation has to do at a clause
abbrev pub IsStatus : List Lit → List Lit → Status → Type 0
IsStatus held clause Propagated = IsPropagated held clause
IsStatus held clause (Forces l) = IsUnit held clause l × IsOpen held l.variable
IsStatus held clause Falsified = IsFalsified held clause

-- an entry from this place of the trail on made a literal of the clause false
abbrev pub IsTouched : List Entry → ℕ → List Lit → Type 0
IsTouched entries from clause =
    (place : ℕ) × (e : Entry) × (from ≤ place) × (slice_get entries place ≡ Some e) × (is_held clause (negation_of e.literal) ≡ true)

-- the number stands in the list from this place on
abbrev pub StandsFrom : List ℕ → ℕ → ℕ → Type 0
StandsFrom numbers from number = (place : ℕ) × (from ≤ place) × (slice_get numbers place ≡ Some number)

-- Propagation has come to the head: each clause is propagated, or an entry from the head on made a literal of it false.
-- The entries from the head on are the propagation queue.
abbrev pub IsPropagatedUpTo : List (List Lit) → List Entry → ℕ → Type 0
IsPropagatedUpTo clauses entries head =
    (number : ℕ) (clause : List Lit) → slice_get clauses number ≡ Some clause →
    IsPropagated (literals entries) clause ⊎ IsTouched entries head clause

-- Propagation has come to the head but for the clauses whose numbers stand in the list from a place on.
abbrev pub IsPropagatedBut : List (List Lit) → List ℕ → ℕ → List Entry → ℕ → Type 0
IsPropagatedBut clauses numbers from entries head =
    (number : ℕ) (clause : List Lit) → slice_get clauses number ≡ Some clause →
    StandsFrom numbers from number ⊎ (IsPropagated (literals entries) clause ⊎ IsTouched entries head clause)

-- Between the two trails the clause of this number was propagated: where it was the next of the numbers that were left
-- in a list, those behind it are left.
abbrev pub PropagatesClause : List (List Lit) → ℕ → List Entry → List Entry → Type 0
PropagatesClause clauses number old new =
    (numbers : List ℕ) (from head : ℕ) → slice_get numbers from ≡ Some number → head ≤ length old →
    IsPropagatedBut clauses numbers from old head → IsPropagatedBut clauses numbers (from + 1) new head

-- between the two trails all clauses of these numbers were propagated
abbrev pub PropagatesClauses : List (List Lit) → List ℕ → List Entry → List Entry → Type 0
PropagatesClauses clauses numbers old new =
    (head : ℕ) → head ≤ length old → IsPropagatedBut clauses numbers 0 old head → IsPropagatedUpTo clauses new head
