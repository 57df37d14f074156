-- Clause sets, and logs of derived clauses over them: reverse unit propagation (RUP), and clauses that unit propagation
-- alone doesn't give. Clauses are numbered from 0: first the gate clauses of the set, then its root clauses, then the
-- clauses of the steps.
use Rattle.std.specs.Prelude.{◌≡◌, ℕ, ◌+◌, ◌-◌, ◌^◌, ◌<◌, ◌⊎◌, ◌++◌, Bool, true, false, List, [], length, take, map, remove, Some, slice_get, IsSomeAnd, All}
use Rattle.clauses.specs.declared.step.Step.{Step}
use Rattle.clauses.specs.declared.cnf.Cnf.{Cnf}
use Rattle.clauses.specs.Literal.{Lit, IsVariable, IsWithin, VariablesWithin, literal_of}
use Rattle.clauses.specs.Propagation.{Derives, HintsRefute, SomeFalsified, is_held, negations_of}

-- What a set asks of its parts: each variable of a clause and each input is a number from 1 to the count, and there are
-- fewer than 2 ^ 31 variables, and fewer than 2 ^ 31 clauses.
pub record MakeSet (gates roots : List (List Lit)) (inputs : List ℕ) (count : ℕ) : Type 0 where
  pub gate_variables : VariablesWithin count gates
  pub root_variables : VariablesWithin count roots
  pub input_variables : All (IsVariable count) inputs
  pub few_variables : count < 2 ^ 31
  pub few_clauses : length gates + length roots < 2 ^ 31

-- The set has exactly these clauses, inputs and count of variables.
pub record IsMadeOf (gates roots : List (List Lit)) (inputs : List ℕ) (count : ℕ) (set : Cnf) : Type 0 where
  pub gates_are : set.gates ≡ gates
  pub roots_are : set.roots ≡ roots
  pub inputs_are : set.inputs ≡ inputs
  pub count_is : set.count ≡ count

-- the clauses of a set, in the order of their numbers
abbrev pub all_clauses : Cnf → List (List Lit)
all_clauses set = set.gates ++ set.roots

abbrev pub clauses_of_steps : List Step → List (List Lit)
clauses_of_steps log = map (λ step. step.clause) log

-- the clauses of a set and of the steps after it, in the order of their numbers
abbrev pub clauses_with : Cnf → List Step → List (List Lit)
clauses_with set steps = all_clauses set ++ clauses_of_steps steps

-- the clauses before the step at this place of the log
abbrev pub clauses_before : Cnf → List Step → ℕ → List (List Lit)
clauses_before set log place = clauses_with set (take place log)

-- The step follows from the earlier clauses by reverse unit propagation (it is RUP): its variables are the set's, and
-- its hints refute the state in which the negations of its clause's literals are held.
abbrev pub StepFollows : Cnf → List (List Lit) → Step → Type 0
StepFollows set earlier step = IsWithin set.count step.clause × HintsRefute earlier (negations_of step.clause) step.hints

-- each step of the log follows from the set and the steps before it
abbrev pub LogFollows : Cnf → List Step → Type 0
LogFollows set log =
    (place : ℕ) (step : Step) → slice_get log place ≡ Some step → StepFollows set (clauses_before set log place) step

-- the log ends with the empty clause
abbrev pub EndsEmpty : List Step → Type 0
EndsEmpty log = IsSomeAnd (slice_get log (length log - 1)) (λ step. step.clause ≡ [])

-- a refutation: a log that follows and ends with the empty clause
abbrev pub IsRefutation : Cnf → List Step → Type 0
IsRefutation set log = LogFollows set log × EndsEmpty log

-- The clause is new after the earlier ones (not absorbed by them): for the literal l at some place of it, when the
-- negations of its literals at the other places are held, no derivation from the earlier clauses comes to hold l or
-- makes a clause false. (The derivation without a move says that l isn't held at the start.)
abbrev pub IsNew : List (List Lit) → List Lit → Type 0
IsNew earlier clause =
    (place : ℕ) × (l : Lit) × (slice_get clause place ≡ Some l)
    × ((moves : List ℕ) (held : List Lit) → Derives earlier (negations_of (remove clause place)) moves held →
    (is_held held l ≡ false) × ¬ (SomeFalsified earlier held))

-- each step's clause is new after the set and the steps before it
abbrev pub LogIsNew : Cnf → List Step → Type 0
LogIsNew set log =
    (place : ℕ) (step : Step) → slice_get log place ≡ Some step → IsNew (clauses_before set log place) step.clause

-- unit propagation alone refutes: some derivation from the state that holds nothing makes a clause of the list false
abbrev pub UnitsRefute : List (List Lit) → Type 0
UnitsRefute clauses =
    (moves : List ℕ) × (held : List Lit) × Derives clauses [] moves held × SomeFalsified clauses held

-- the literals that are held where each input has its value by the setting
abbrev pub setting_literals : Cnf → (ℕ → Bool) → List Lit
setting_literals set setting = map (λ n. literal_of n (setting n)) set.inputs

-- each variable of the set has a value in the state: one of its literals is held
abbrev pub AllSet : Cnf → List Lit → Type 0
AllSet set held =
    (n : ℕ) → IsVariable set.count n → (value : Bool) × (is_held held (literal_of n value) ≡ true)

-- Unit propagation from any values of the inputs derives a value of each variable or makes a clause of the set false.
abbrev pub UnitsDetermine : Cnf → Type 0
UnitsDetermine set =
    (setting : ℕ → Bool) →
    (moves : List ℕ) × (held : List Lit) × Derives (all_clauses set) (setting_literals set setting) moves held
    × (AllSet set held ⊎ SomeFalsified (all_clauses set) held)
