-- The clauses of a log's steps.
use Rattle.trimmed_logs.proofs.Common.{◌≡◌, ℕ, List, Some, All, get_or, ap, ◌∙◌, Contains, slice_get, option_map, slice_get-map, slice_get-get_or, slice_get_within, get_or_from_slice_get, Step, clauses_of_steps}

-- the clause of the step at a place is one of them
pub clause_stands : (log : List Step) (place : ℕ) (step : Step) → slice_get log place ≡ Some step → Contains (clauses_of_steps log) step.clause
clause_stands log place step at =
    let named : slice_get (clauses_of_steps log) place ≡ Some step.clause =
    slice_get-map (λ (s : Step). s.clause) log place ∙ ap (option_map (λ (s : Step). s.clause)) at in
    (place, slice_get_within (clauses_of_steps log) place step.clause named, get_or_from_slice_get (clauses_of_steps log) place step.clause step.clause named)

-- the clause of each step is one of them
pub each_stands : (log : List Step) → All (λ (s : Step). Contains (clauses_of_steps log) s.clause) log
each_stands log = λ k d within. clause_stands log k (get_or log k d) (slice_get-get_or log k d within)
