-- What a conflict shows: a step that follows, and without a decision a refutation.
use Rattle.depth_first.proofs.Common.{◌≡◌, ℕ, ◌+◌, ◌-◌, Bool, Option, List, [], ◌∷◌, ◌++◌, Some, length, sym, ap, ◌∙◌, arith, subst, length-append, slice_get, IsSomeAnd, Cnf, Step, IsWithin, HintsRefute, NamesFalse, negations_of, StepFollows, LogFollows, IsRefutation, clauses_with, Entry, literals, decisions, EachFresh, IsTableOf, EachCaused, IsLearnedStep}
use Rattle.depth_first.proofs.Lists.{slice_get_last}
use Rattle.depth_first.proofs.TrailTable.{Consistent-from_table}
use Rattle.depth_first.proofs.Derived.{decisions_refuted}
use Rattle.depth_first.proofs.States.{EachForced-from_caused, LogFollows-push, decisions_within, negations_twice}

-- the step that is learned of a conflict follows by reverse unit propagation
pub learned_follows : (set : Cnf) (values : List (Option Bool)) (log : List Step) (entries : List Entry) (conflict : ℕ) (step : Step) → IsTableOf values entries → EachFresh values entries → length values ≡ set.count + 1 → EachCaused set log entries → NamesFalse (clauses_with set log) (literals entries) conflict → IsLearnedStep (clauses_with set log) entries conflict step → StepFollows set (clauses_with set log) step
learned_follows set values log entries conflict step table fresh room caused conflicts shown =
    let ds = decisions entries in
    let cs = clauses_with set log in
    let same : negations_of step.clause ≡ ds = ap negations_of shown.clause_is ∙ negations_twice ds in (
      subst (IsWithin set.count) (sym shown.clause_is)
          (decisions_within set.count entries (λ k f at. let h = fresh k f at in (h.0, omega (arith, h.1, room)))),
      subst (λ held. HintsRefute cs held step.hints) (sym same)
          (subst (HintsRefute cs ds) (sym shown.hints_are)
          (decisions_refuted cs entries shown.marks conflict (EachForced-from_caused set log entries caused) (Consistent-from_table values entries table) shown.involved conflicts)),
    )

-- without a decision the learned clause is empty, so its step ends a refutation
pub IsRefutation-push : (set : Cnf) (log : List Step) (entries : List Entry) (step : Step) → LogFollows set log → StepFollows set (clauses_with set log) step → step.clause ≡ negations_of (decisions entries) → decisions entries ≡ [] → IsRefutation set (log ++ step ∷ [])
IsRefutation-push set log entries step log_follows follows clause_is none =
    let last : length (log ++ step ∷ []) - 1 ≡ length log = omega (arith, length-append log (step ∷ [])) in
    let at : slice_get (log ++ step ∷ []) (length (log ++ step ∷ []) - 1) ≡ Some step =
    ap (slice_get (log ++ step ∷ [])) last ∙ slice_get_last log step in (
      LogFollows-push set log step log_follows follows,
      subst (λ o. IsSomeAnd o (λ (s : Step). s.clause ≡ [])) (sym at) (clause_is ∙ ap negations_of none),
    )
