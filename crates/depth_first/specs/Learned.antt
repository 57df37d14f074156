-- What is learned of a conflict: which variables it rests on (conflict analysis), and the step that shows the learned
-- clause.
use Rattle.std.specs.Prelude.{◌≡◌, ℕ, ◌≤◌, ◌++◌, ◌⊎◌, Bool, true, false, List, [], ◌∷◌, Some, filter, slice_get, slice_index_or}
use Rattle.clauses.specs.Literal.{Lit}
use Rattle.clauses.specs.declared.cnf.Cnf.{Cnf}
use Rattle.clauses.specs.declared.step.Step.{Step}
use Rattle.clauses.specs.Propagation.{is_held, negations_of}
use Rattle.clauses.specs.ClauseSet.{StepFollows, clauses_with}
use Rattle.depth_first.specs.declared.trail.Entry.{Entry}
use Rattle.depth_first.specs.declared.trail.Cause.TheVariants.{Reason}
use Rattle.depth_first.specs.TrailEntries.{decisions, reasons}

-- whether the variable is marked
abbrev pub is_marked : List Bool → ℕ → Bool
is_marked marks n = slice_index_or marks n false

-- each variable of the clause is marked
abbrev pub AllMarked : List Bool → List Lit → Type 0
AllMarked marks clause = (l : Lit) → is_held clause l ≡ true → is_marked marks l.variable ≡ true

-- the variables of the clause are marked beside those that were, and no others
pub record Marks (clause : List Lit) (old new : List Bool) : Type 0 where
  pub all : AllMarked new clause
  pub kept : (n : ℕ) → is_marked old n ≡ true → is_marked new n ≡ true
  pub only : (n : ℕ) → is_marked new n ≡ true → (is_marked old n ≡ true) ⊎ ((l : Lit) × (is_held clause l ≡ true) × (l.variable ≡ n))

-- The variables of the clause of this number are marked.
abbrev pub NamesMarked : List (List Lit) → List Bool → ℕ → Type 0
NamesMarked clauses marks number = (clause : List Lit) → slice_get clauses number ≡ Some clause → AllMarked marks clause

-- What the conflict rests on is marked: the variables of the clause that is false, and for each entry from this place
-- on whose variable is marked and that has a reason, the variables of the reason.
pub record IsInvolved (clauses : List (List Lit)) (entries : List Entry) (conflict from : ℕ) (marks : List Bool) : Type 0 where
  pub falsified : NamesMarked clauses marks conflict
  pub reasons_too : (place : ℕ) (e : Entry) (number : ℕ) → from ≤ place → slice_get entries place ≡ Some e → e.cause ≡ Reason number → is_marked marks e.literal.variable ≡ true → NamesMarked clauses marks number

-- the entries whose variables are marked
abbrev pub marked_entries : List Bool → List Entry → List Entry
marked_entries marks entries = filter (λ (e : Entry). is_marked marks e.literal.variable) entries

-- The step that is learned of a conflict: the clause of the negated decisions; its hints are the reasons, in the order
-- of the trail, of what the conflict rests on, and then the clause that is false.
pub record IsLearnedStep (clauses : List (List Lit)) (entries : List Entry) (conflict : ℕ) (step : Step) : Type 0 where
  pub marks : List Bool
  pub involved : IsInvolved clauses entries conflict 0 marks
  pub clause_is : step.clause ≡ negations_of (decisions entries)
  pub hints_are : step.hints ≡ reasons (marked_entries marks entries) ++ conflict ∷ []

-- The log has one more step: the clause of the negated decisions, which follows.
pub record Learns (set : Cnf) (entries : List Entry) (old new : List Step) : Type 0 where
  pub step : Step
  pub is : new ≡ old ++ step ∷ []
  pub clause_is : step.clause ≡ negations_of (decisions entries)
  pub follows : StepFollows set (clauses_with set old) step
