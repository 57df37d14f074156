-- What a search may answer.
use Rattle.std.specs.Prelude.{◌≡◌, ℕ, ◌+◌, ◌≤◌, ◌==◌, ◌++◌, Bool, List, [], ◌∷◌, Some, if◌then◌else◌, length, slice_get}
use Rattle.std.specs.List.{list_any}
use Rattle.clauses.specs.declared.cnf.Cnf.{Cnf}
use Rattle.clauses.specs.declared.step.Step.{Step}
use Rattle.clauses.specs.Literal.{Meets, assignment_of}
use Rattle.clauses.specs.ClauseSet.{all_clauses, clauses_of_steps, LogFollows, LogIsNew, IsRefutation, UnitsRefute, UnitsDetermine}
use Rattle.depth_first.specs.declared.found.Found.{Found}
use Rattle.depth_first.specs.declared.found.Found.TheVariants.{Sat, Unsat, Limit}

-- the most clauses that a search may be told to learn, so that clause numbers fit a `u32`
abbrev pub most_conflicts : ℕ
most_conflicts = 1000000

-- a model: one value for each variable, and every clause is true
pub record IsModel (set : Cnf) (values : List Bool) : Type 0 where
  pub each_variable : length values ≡ set.count
  pub meets : Meets (assignment_of values) (all_clauses set)

-- how many different numbers stand in the list
abbrev pub distinct_count : List ℕ → ℕ
distinct_count [] = 0
distinct_count (n ∷ ns) = (if list_any (λ m. n == m) ns then 0 else 1) + distinct_count ns

-- at most twelve different inputs are named, and unit propagation from their values gives all variables a value or
-- makes a clause false
abbrev pub FewInputsDetermine : Cnf → Type 0
FewInputsDetermine set = (distinct_count set.inputs ≤ 12) × UnitsDetermine set

-- none of the clauses is empty
abbrev pub NoneEmpty : List Step → Type 0
NoneEmpty log = (place : ℕ) (step : Step) → slice_get log place ≡ Some step → ¬ (step.clause ≡ [])

-- An honest answer that the limit was reached: exactly so many clauses were learned, each follows and is new, none is
-- empty; unit propagation alone doesn't refute the set with them; and it isn't a set that at most twelve inputs
-- determine.
pub record IsHonestLimit (set : Cnf) (limit : ℕ) (log : List Step) : Type 0 where
  pub exact : length log ≡ limit
  pub none_empty : NoneEmpty log
  pub follows : LogFollows set log
  pub new : LogIsNew set log
  pub units_fail : ¬ (UnitsRefute (all_clauses set ++ clauses_of_steps log))
  pub not_few : ¬ (FewInputsDetermine set)

abbrev pub IsFound : Cnf → ℕ → Found → Type 0
IsFound set limit (Sat values) = IsModel set values
IsFound set limit (Unsat log) = IsRefutation set log
IsFound set limit (Limit log) = IsHonestLimit set limit log
