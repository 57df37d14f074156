-- The state of a depth-first search for a model between two steps. What is held satisfies each learned clause; and
-- where a decision was made, each clause that was learned so far was satisfied already or has the negation of the
-- decision, so it is satisfied when the decision is flipped.
use Rattle.std.specs.Prelude.{◌≡◌, ℕ, ◌⊎◌, true, List, Some, All, Contains, take, slice_get}
use Rattle.clauses.specs.declared.cnf.Cnf.{Cnf}
use Rattle.clauses.specs.declared.step.Step.{Step}
use Rattle.clauses.specs.Literal.{Lit, negation_of, IsVariable}
use Rattle.clauses.specs.Propagation.{NamesUnit, is_held}
use Rattle.clauses.specs.ClauseSet.{all_clauses, clauses_of_steps, LogFollows, LogIsNew, clauses_with}
use Rattle.depth_first.specs.declared.trail.Entry.{Entry}
use Rattle.depth_first.specs.declared.trail.Cause.{Cause}
use Rattle.depth_first.specs.declared.trail.Cause.TheVariants.{InputDecision, NonInputDecision, Reason}
use Rattle.depth_first.specs.TrailEntries.{literals, IsOpen, IsSet}
use Rattle.depth_first.specs.Found.{NoneEmpty}
use Rattle.depth_first.specs.Propagated.{AllPropagated, IsPropagatedUpTo}

-- the clause is satisfied: one of its literals is held
abbrev pub IsSatisfied : List Lit → List Lit → Type 0
IsSatisfied held clause = (l : Lit) × (is_held clause l ≡ true) × (is_held held l ≡ true)

abbrev pub AllSatisfied : List Lit → List Step → Type 0
AllSatisfied held log =
    (number : ℕ) (clause : List Lit) → slice_get (clauses_of_steps log) number ≡ Some clause → IsSatisfied held clause

-- each input has a value
abbrev pub InputsSet : Cnf → List Lit → Type 0
InputsSet set held = All (IsSet held) set.inputs

-- What holds where this literal is decided: all clauses of the set and the log are propagated, and each learned clause
-- is satisfied or has the literal's negation.
pub record IsDecided (set : Cnf) (log : List Step) (held : List Lit) (l : Lit) : Type 0 where
  pub propagated : AllPropagated (clauses_with set log) held
  pub learned : (number : ℕ) (clause : List Lit) → slice_get (clauses_of_steps log) number ≡ Some clause → IsSatisfied held clause ⊎ (is_held clause (negation_of l) ≡ true)

-- the cause of the literal is a right one: a decision that was allowed there, or a reason in which the literal was unit
abbrev pub IsCaused : Cnf → List Step → List Lit → Lit → Cause → Type 0
IsCaused set log held l InputDecision = IsDecided set log held l × Contains set.inputs l.variable
IsCaused set log held l NonInputDecision = IsDecided set log held l × InputsSet set held
IsCaused set log held l (Reason number) = NamesUnit (clauses_with set log) held number l

abbrev pub EachCaused : Cnf → List Step → List Entry → Type 0
EachCaused set log entries =
    (place : ℕ) (e : Entry) → slice_get entries place ≡ Some e → IsCaused set log (literals (take place entries)) e.literal e.cause

-- The log is one of learned clauses: it follows, and each clause of it is new and not empty.
pub record IsLearned (set : Cnf) (log : List Step) : Type 0 where
  pub follows : LogFollows set log
  pub new : LogIsNew set log
  pub none_empty : NoneEmpty log

-- the state of the search between two steps: the entries from the head on are the propagation queue
pub record IsState (set : Cnf) (log : List Step) (entries : List Entry) (head : ℕ) : Type 0 where
  pub caused : EachCaused set log entries
  pub satisfied : AllSatisfied (literals entries) log
  pub up_to_head : IsPropagatedUpTo (all_clauses set) entries head
  pub log_learned : IsLearned set log

-- a decision that is allowed: on an input, or on another variable once all inputs are set
abbrev pub IsAllowed : Cnf → List Lit → ℕ → Cause → Type 0
IsAllowed set held n InputDecision = Contains set.inputs n
IsAllowed set held n NonInputDecision = InputsSet set held
IsAllowed set held n (Reason number) = ⊥

-- an entry that the search may decide next: its variable has no value, and is an input unless all inputs are set
pub record IsNext (set : Cnf) (held : List Lit) (e : Entry) : Type 0 where
  pub variable : IsVariable set.count e.literal.variable
  pub unset : IsOpen held e.literal.variable
  pub allowed : IsAllowed set held e.literal.variable e.cause
