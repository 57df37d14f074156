-- Logs taken step by step.
use Rattle.rup_checker.proofs.Common.{◌≡◌, ℕ, suc, ◌+◌, ◌<◌, List, Some, sym, ap, ◌∙◌, arith, inl, inr, subst, add-one, slice_get, cases_lt, All-push, same_Some, Step, Cnf, IsWithin, VariablesWithin, StepFollows, clauses_before, clauses_before-suc}

-- each step before this place follows
abbrev pub FollowsBefore : Cnf → List Step → ℕ → Type 0
FollowsBefore set log place =
    (k : ℕ) (step : Step) → k < place → slice_get log k ≡ Some step → StepFollows set (clauses_before set log k) step

pub FollowsBefore-more : (set : Cnf) (log : List Step) (place : ℕ) (step : Step) → slice_get log place ≡ Some step → StepFollows set (clauses_before set log place) step → FollowsBefore set log place → FollowsBefore set log (place + 1)
FollowsBefore-more set log place step at follows before =
    λ k other within here.
    elim (cases_lt k place) [
      | inl earlier ↦ before k other earlier here
      | inr reached ↦
          let now : place ≡ k = omega arith in
          let same : step ≡ other = same_Some step other (sym at ∙ ap (slice_get log) now ∙ here) in
          subst (λ n. StepFollows set (clauses_before set log n) other) now (subst (StepFollows set (clauses_before set log place)) same follows)
    ]

pub within_more : (set : Cnf) (log : List Step) (place : ℕ) (step : Step) → slice_get log place ≡ Some step → StepFollows set (clauses_before set log place) step → VariablesWithin set.count (clauses_before set log place) → VariablesWithin set.count (clauses_before set log (place + 1))
within_more set log place step at follows within =
    let next : clauses_before set log (place + 1) ≡ clauses_before set log (suc place) = ap (clauses_before set log) (add-one place) in
    subst (VariablesWithin set.count) (sym (next ∙ clauses_before-suc set log place step at))
    (All-push (IsWithin set.count) (clauses_before set log place) step.clause within follows.0)
