-- Occurrence lists: for each literal the clauses in which it stands.
use Rattle.std.specs.Prelude.{◌≡◌, ℕ, ◌+◌, ◌<◌, ◌++◌, ◌⊎◌, true, false, List, [], ◌∷◌, Some, if◌then◌else◌, length, slice_get, slice_index_or}
use Rattle.clauses.specs.declared.cnf.Cnf.{Cnf}
use Rattle.clauses.specs.Literal.{Lit, is_same}
use Rattle.clauses.specs.Propagation.{is_held}
use Rattle.clauses.specs.ClauseSet.{all_clauses}
use Rattle.depth_first.specs.declared.occurrences.Occurrences.{Occurrences}
use Rattle.depth_first.specs.Propagated.{StandsFrom}

-- the clause numbers that the lists have for a literal
abbrev pub numbers_of : Occurrences → Lit → List ℕ
numbers_of lists l = slice_index_or (if l.negated then lists.negative.items else lists.positive.items) l.variable []

-- there is a list for each literal of a variable below n
pub record CoversBelow (n : ℕ) (lists : Occurrences) : Type 0 where
  pub positive : length lists.positive.items ≡ n
  pub negative : length lists.negative.items ≡ n

-- the lists after a number is added to that of one literal
pub record AddsNumber (old new : Occurrences) (l : Lit) (number : ℕ) : Type 0 where
  pub here : numbers_of new l ≡ numbers_of old l ++ number ∷ []
  pub others : (m : Lit) → is_same m l ≡ false → numbers_of new m ≡ numbers_of old m

-- the lists after the number of a clause is added to that of each literal of it
pub record AddsClause (old new : Occurrences) (clause : List Lit) (number : ℕ) : Type 0 where
  pub kept : (l : Lit) (place n : ℕ) → slice_get (numbers_of old l) place ≡ Some n → slice_get (numbers_of new l) place ≡ Some n
  pub added : (l : Lit) → is_held clause l ≡ true → StandsFrom (numbers_of new l) 0 number
  pub only : (l : Lit) (place n : ℕ) → slice_get (numbers_of new l) place ≡ Some n → (slice_get (numbers_of old l) place ≡ Some n) ⊎ (n ≡ number)

-- For each literal the lists have the clauses with numbers below this one in which it stands; all their numbers are
-- below it.
pub record FindsBelow (clauses : List (List Lit)) (below : ℕ) (lists : Occurrences) : Type 0 where
  pub finds : (number : ℕ) (clause : List Lit) (l : Lit) → number < below → slice_get clauses number ≡ Some clause → is_held clause l ≡ true → StandsFrom (numbers_of lists l) 0 number
  pub only : (l : Lit) (place n : ℕ) → slice_get (numbers_of lists l) place ≡ Some n → n < below

-- the lists of all clauses of a set
pub record IsIndexOf (set : Cnf) (lists : Occurrences) : Type 0 where
  pub covers : CoversBelow (set.count + 1) lists
  pub all : FindsBelow (all_clauses set) (length (all_clauses set)) lists
