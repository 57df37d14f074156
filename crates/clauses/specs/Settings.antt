-- What it is for a clause set to stand for a test of its inputs' values (Tseitin's encoding of a circuit without unused
-- gates). A setting gives the inputs their values.
use Rattle.std.specs.Prelude.{◌≡◌, ℕ, ◌+◌, ◌<◌, ◌≤◌, ◌⊎◌, ◌↔◌, Bool, true, List, map, length, slice_index, EachIndex, All, Any}
use Rattle.clauses.specs.declared.cnf.Cnf.{Cnf}
use Rattle.clauses.specs.Literal.{Lit, Meets, IsVariable, literal_of, clause_true}
use Rattle.clauses.specs.Propagation.{Derives, SomeFalsified, is_held}
use Rattle.clauses.specs.ClauseSet.{all_clauses, setting_literals}

-- the values of the inputs by a setting, in the order of the inputs
abbrev pub input_values : Cnf → (ℕ → Bool) → List Bool
input_values set setting = map setting set.inputs

-- the two assignments give each of these variables the same value
abbrev pub AgreeOn : List ℕ → (ℕ → Bool) → (ℕ → Bool) → Type 0
AgreeOn variables v w = All (λ n. w n ≡ v n) variables

abbrev pub AgreeUpTo : ℕ → (ℕ → Bool) → (ℕ → Bool) → Type 0
AgreeUpTo count v w = (n : ℕ) → IsVariable count n → w n ≡ v n

-- an extension of the setting to all variables that meets the gate clauses
abbrev pub IsExtension : Cnf → (ℕ → Bool) → (ℕ → Bool) → Type 0
IsExtension set setting v = AgreeOn set.inputs setting v × Meets v set.gates

-- each variable of the set is held at the value that the assignment gives it
abbrev pub HoldsAll : Cnf → List Lit → (ℕ → Bool) → Type 0
HoldsAll set held v = (n : ℕ) → IsVariable set.count n → is_held held (literal_of n (v n)) ≡ true

-- unit propagation from the inputs' values derives this assignment or makes a clause of the set false
abbrev pub UnitsDerive : Cnf → (ℕ → Bool) → (ℕ → Bool) → Type 0
UnitsDerive set setting v =
    (moves : List ℕ) × (held : List Lit) × Derives (all_clauses set) (setting_literals set setting) moves held
    × (HoldsAll set held v ⊎ SomeFalsified (all_clauses set) held)

-- What is true of one setting: it has exactly one extension that meets the gate clauses; unit propagation derives that
-- extension or makes a clause false; and the extension meets the root clauses exactly where the test is true.
pub record StandsAt (set : Cnf) (test : Type 0) (setting : ℕ → Bool) : Type 0 where
  pub extension : ℕ → Bool
  pub extends : IsExtension set setting extension
  pub only : (w : ℕ → Bool) → IsExtension set setting w → AgreeUpTo set.count extension w
  pub derived : UnitsDerive set setting extension
  pub asked : Meets extension set.roots ↔ test

-- a variable that is no input, where the inputs are the first variables
abbrev pub IsInner : Cnf → ℕ → Type 0
IsInner set n = (length set.inputs < n) × (n ≤ set.count)

-- the variable stands in the clause
abbrev pub StandsIn : ℕ → List Lit → Type 0
StandsIn n clause = Any (λ l. l.variable ≡ n) clause

-- it is the greatest variable of the clause
abbrev pub IsGreatest : ℕ → List Lit → Type 0
IsGreatest n clause = StandsIn n clause × All (λ l. l.variable ≤ n) clause

-- the assignment meets the clauses that define the variable: those in which it is the greatest
abbrev pub MeetsDefinition : ℕ → (ℕ → Bool) → List (List Lit) → Type 0
MeetsDefinition n v clauses = All (λ clause. IsGreatest n clause → clause_true v clause ≡ true) clauses

-- Whatever values the smaller variables have, exactly one value of this one meets the gate clauses in which it is the
-- greatest.
abbrev pub IsDefined : Cnf → ℕ → Type 0
IsDefined set n =
    (v : ℕ → Bool) → (value : Bool) ×
    ((w : ℕ → Bool) → ((m : ℕ) → m < n → w m ≡ v m) → (MeetsDefinition n w set.gates ↔ (w n ≡ value)))

-- The variable stands in a root clause, or in a gate clause with a greater variable; so each leads by gates to a root
-- clause.
abbrev pub IsUsed : Cnf → ℕ → Type 0
IsUsed set n = Any (StandsIn n) set.roots ⊎ Any (λ clause. StandsIn n clause × Any (λ l. n < l.variable) clause) set.gates

-- The set stands for the test of its inputs' values.
pub record StandsFor (set : Cnf) (test : List Bool → Type 0) : Type 0 where
  pub each_setting : (setting : ℕ → Bool) → StandsAt set (test (input_values set setting)) setting
  pub inputs_first : EachIndex set.inputs (λ k. slice_index set.inputs k ≡ k + 1)
  pub inner_defined : (n : ℕ) → IsInner set n → IsDefined set n
  pub inner_used : (n : ℕ) → IsInner set n → IsUsed set n
