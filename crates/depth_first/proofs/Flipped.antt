-- The state of the search after the last decision is flipped.
use Rattle.depth_first.proofs.Common.{◌≡◌, ℕ, ◌<◌, Bool, Option, true, List, [], ◌∷◌, ◌++◌, Some, length, take, refl, sym, ap, ◌∙◌, arith, inl, inr, subst, slice_get, remove, map-append, length-take-le, Cnf, Step, negation_of, NamesUnit, IsUnit, is_held, negations_of, all_clauses, clauses_of_steps, StepFollows, IsNew, clauses_with, negation-negation, unit_last, HeldWithin, IsNew-from_closed, Entry, Cause, InputDecision, NonInputDecision, Reason, literals, decisions, is_decision, IsOpen, EachFresh, IsPropagated, AllPropagated, IsDecided, IsCaused, EachCaused, IsLearned, IsState}
use Rattle.depth_first.proofs.Lists.{slice_get_push_cases, slice_get_last, slice_get_below, slice_get_take, take_in_take, slice_get_in_take, take_left, take_whole}
use Rattle.depth_first.proofs.HeldLists.{held_last, both_held, not_held_nil, open_not_held, open_not_false, open_within, literals-append, literals_left, literal_at, HeldWithin-take}
use Rattle.depth_first.proofs.Open.{IsPropagated-from_different}
use Rattle.depth_first.proofs.Derived.{decision_at, HeldWithin-decisions}
use Rattle.depth_first.proofs.PropagationLemmas.{IsPropagatedUpTo-push, IsPropagatedUpTo-propagated}
use Rattle.depth_first.proofs.States.{clauses_with-push, clauses_of_steps-push, NamesUnit-more, AllPropagated-left, AllPropagated-push, decided_from, LogFollows-push, LogIsNew-push, NoneEmpty-push, negations_twice, negated_in, all_false, remove_last, closed_from_propagated}

-- A conflict with the trail and the log before it, and the step that is learned of it.
module _ (set : Cnf) (values : List (Option Bool)) (log : List Step) (entries : List Entry) (step : Step) (fresh : EachFresh values entries) (caused : EachCaused set log entries) (log_learned : IsLearned set log) (clause_is : step.clause ≡ negations_of (decisions entries)) (learned_follows : StepFollows set (clauses_with set log) step) where
  -- the last decision of the trail
  module _ (place : ℕ) (e : Entry) (at : slice_get entries place ≡ Some e) (decides : is_decision e.cause ≡ true) (last : decisions entries ≡ decisions (take place entries) ++ e.literal ∷ []) where
    open_there : IsOpen (literals (take place entries)) e.literal.variable
    open_there = (fresh place e at).2

    clause_ends : step.clause ≡ negations_of (decisions (take place entries)) ++ negation_of e.literal ∷ []
    clause_ends = clause_is ∙ ap negations_of last ∙ map-append negation_of (decisions (take place entries)) (e.literal ∷ [])

    decided_there : IsDecided set log (literals (take place entries)) e.literal
    decided_there = decided_from set log (literals (take place entries)) e.literal e.cause decides (caused place e at)

    has_negation : (k : ℕ) (f : Entry) → slice_get entries k ≡ Some f → is_decision f.cause ≡ true → is_held (step.clause) (negation_of f.literal) ≡ true
    has_negation k f there is =
        ap (λ c. is_held c (negation_of f.literal)) clause_is ∙ negated_in (decisions entries) f.literal (decision_at entries k f there is)

    -- the learned clause is new
    learned_is_new : IsNew (clauses_with set log) (step.clause)
    learned_is_new =
        let held = literals (take place entries) in
        let ds = decisions (take place entries) in
        let xs = negations_of ds in
        let l = negation_of e.literal in
        let rest : negations_of (remove (xs ++ l ∷ []) (length xs)) ≡ ds = ap negations_of (remove_last xs l) ∙ negations_twice ds in
        subst (IsNew (clauses_with set log)) (sym clause_ends)
        (IsNew-from_closed (clauses_with set log) held (xs ++ l ∷ []) (length xs) l (closed_from_propagated (clauses_with set log) held decided_there.propagated)
        (slice_get_last xs l)
        (subst (λ ls. HeldWithin ls held) (sym rest) (HeldWithin-decisions (take place entries)))
        (open_not_held held l open_there))

    learned_not_empty : ¬ (step.clause ≡ [])
    learned_not_empty empty =
        not_held_nil (negation_of e.literal) (sym (ap (λ c. is_held c (negation_of e.literal)) empty) ∙ has_negation place e at decides)

    -- at an earlier decision all clauses were propagated, the learned one among them
    module _ (k : ℕ) (f : Entry) (there : slice_get entries k ≡ Some f) (earlier : k < place) where
      in_prefix : slice_get (take place entries) k ≡ Some f
      in_prefix = slice_get_in_take place entries k f there earlier

      same_prefix : take k (take place entries) ≡ take k entries
      same_prefix = take_in_take place entries k f in_prefix

      within_last : HeldWithin (literals (take k entries)) (literals (take place entries))
      within_last = subst (λ es. HeldWithin (literals es) (literals (take place entries))) same_prefix (HeldWithin-take k (take place entries))

      learned_propagated : is_decision f.cause ≡ true → IsPropagated (literals (take k entries)) (step.clause)
      learned_propagated is =
          let held = literals (take k entries) in
          let last_held = literals (take place entries) in
          IsPropagated-from_different held (step.clause) (negation_of f.literal) (negation_of e.literal)
          (has_negation k f there is)
          (open_not_false held (negation_of f.literal) (fresh k f there).2)
          (has_negation place e at decides)
          (open_not_false held (negation_of e.literal) (open_within held last_held e.literal.variable within_last open_there))
          (λ same.
          let lits : f.literal ≡ e.literal = sym (negation-negation f.literal) ∙ ap negation_of same ∙ negation-negation e.literal in
          both_held last_held e.literal (sym (ap (is_held last_held) lits) ∙ literal_at (take place entries) k f in_prefix) (open_not_held last_held e.literal open_there))

      decided_more : is_decision f.cause ≡ true → IsDecided set log (literals (take k entries)) f.literal → IsDecided set (log ++ step ∷ []) (literals (take k entries)) f.literal
      decided_more is d =
          let held = literals (take k entries) in
          record {
            propagated =
                subst (λ cs. AllPropagated cs held) (sym (clauses_with-push set log step))
                (AllPropagated-push (clauses_with set log) (step.clause) held d.propagated (learned_propagated is));
            learned = λ number c named.
                elim (slice_get_push_cases (clauses_of_steps log) step.clause number c (sym (ap (λ cs. slice_get cs number) (clauses_of_steps-push log step)) ∙ named)) [
                  | inl before ↦ d.learned number c before
                  | inr here ↦ inr (subst (λ ls. is_held ls (negation_of f.literal) ≡ true) here.1 (has_negation k f there is))
                ];
          }

      caused_more : (cause : Cause) → f.cause ≡ cause → IsCaused set log (literals (take k entries)) f.literal cause → IsCaused set (log ++ step ∷ []) (literals (take k entries)) f.literal cause
      caused_more InputDecision is h = (decided_more (ap is_decision is) h.0, h.1)
      caused_more NonInputDecision is h = (decided_more (ap is_decision is) h.0, h.1)
      caused_more (Reason number) is h =
          subst (λ cs. NamesUnit cs (literals (take k entries)) number f.literal) (sym (clauses_with-push set log (step)))
          (NamesUnit-more (clauses_with set log) (step.clause ∷ []) (literals (take k entries)) number f.literal h)

    -- the learned clause is unit in the state in which the last decision was made, with the negation of that decision
    learned_forces : IsUnit (literals (take place entries)) (step.clause) (negation_of e.literal)
    learned_forces =
        let held = literals (take place entries) in
        let ds = decisions (take place entries) in
        let l = negation_of e.literal in
        subst (λ ls. IsUnit held ls l) (sym clause_ends)
        (unit_last held (negations_of ds) l (all_false ds held (HeldWithin-decisions (take place entries))) (open_not_false held l open_there))

    -- the trail with the last decision flipped, and the log with the learned step, are a state of the search
    pub IsState-flipped : (number : ℕ) → number ≡ length (clauses_with set log) → IsState set (log ++ step ∷ []) (take place entries ++ (record { literal = negation_of e.literal; cause = Reason number }) ∷ []) place
    IsState-flipped number is =
        let prefix = take place entries in
        let held = literals prefix in
        let l = negation_of e.literal in
        let t : Entry = record { literal = l; cause = Reason number } in
        let below : place < length entries = slice_get_below entries place e at in
        let lengths : length prefix ≡ place = length-take-le place entries (omega arith) in
        let named : slice_get (clauses_with set (log ++ step ∷ [])) number ≡ Some step.clause =
        ap (λ cs. slice_get cs number) (clauses_with-push set log step)
        ∙ ap (slice_get (clauses_with set log ++ step.clause ∷ [])) is
        ∙ slice_get_last (clauses_with set log) step.clause in
        record {
          caused = λ k f there.
              elim (slice_get_push_cases prefix t k f there) [
                | inl left ↦
                    let (old, earlier) = slice_get_take place entries k f left in
                    let same : take k (prefix ++ t ∷ []) ≡ take k entries = take_left prefix (t ∷ []) k f left ∙ take_in_take place entries k f left in
                    subst (λ es. IsCaused set (log ++ step ∷ []) (literals es) f.literal f.cause) (sym same)
                    (caused_more k f old earlier f.cause refl (caused k f old))
                | inr here ↦
                    let same : take k (prefix ++ t ∷ []) ≡ prefix = ap (λ n. take n (prefix ++ t ∷ [])) here.0 ∙ take_whole prefix (t ∷ []) in
                    subst (λ es. IsCaused set (log ++ step ∷ []) (literals es) f.literal f.cause) (sym same)
                    (subst (λ (g : Entry). IsCaused set (log ++ step ∷ []) held g.literal g.cause) here.1 (step.clause, named, learned_forces))
              ];
          satisfied = λ n c there.
              let now : is_held (literals (prefix ++ t ∷ [])) l ≡ true =
              ap (λ h. is_held h l) (literals-append prefix (t ∷ [])) ∙ held_last held l in
              elim (slice_get_push_cases (clauses_of_steps log) step.clause n c (sym (ap (λ cs. slice_get cs n) (clauses_of_steps-push log step)) ∙ there)) [
                | inl before ↦
                    elim (decided_there.learned n c before) [
                      | inl satisfied ↦ (satisfied.0, satisfied.1, literals_left prefix (t ∷ []) satisfied.0 satisfied.2)
                      | inr has ↦ (l, has, now)
                    ]
                | inr here ↦ (l, subst (λ ls. is_held ls l ≡ true) here.1 (has_negation place e at decides), now)
              ];
          up_to_head =
              IsPropagatedUpTo-push (all_clauses set) prefix t place (omega (arith, lengths))
              (IsPropagatedUpTo-propagated (all_clauses set) prefix place (AllPropagated-left (all_clauses set) (clauses_of_steps log) held decided_there.propagated));
          log_learned =
              record {
                follows = LogFollows-push set log step log_learned.follows learned_follows;
                new = LogIsNew-push set log step log_learned.new learned_is_new;
                none_empty = NoneEmpty-push set log step log_learned.none_empty learned_not_empty;
              };
        }
