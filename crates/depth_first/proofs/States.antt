-- The state of a search after each kind of step: propagation, a decision, a learned clause.
use Rattle.depth_first.proofs.Common.{◌≡◌, ℕ, suc, ◌+◌, Bool, true, false, cond, filter, List, [], ◌∷◌, ◌++◌, Some, length, take, refl, sym, ap, ◌∙◌, arith, inl, inr, subst, length-append, append_assoc, slice_get, remove, append-nil, map-append, drop_all, length-map, or_cases, or_left, or_right, All-nil, All-cons, Cnf, Step, Lit, negation_of, is_same, IsVariable, IsWithin, NamesUnit, IsFalsified, is_held, is_false, negations_of, all_clauses, clauses_of_steps, clauses_before, StepFollows, LogFollows, LogIsNew, IsNew, clauses_with, negation-negation, is_same-true, is_same-self, HeldWithin, IsClosed, Entry, Cause, InputDecision, NonInputDecision, Reason, NoneEmpty, literals, decisions, is_decision, Grows, IsPropagated, AllPropagated, IsPropagatedUpTo, AllSatisfied, IsDecided, IsCaused, EachCaused, IsState, IsNext, IsAllowed, EachForced}
use Rattle.depth_first.proofs.Lists.{slice_get_left, slice_get_cases, slice_get_push_cases, take_left, take_right, take_whole}
use Rattle.depth_first.proofs.HeldLists.{Consistent, literals_left}
use Rattle.depth_first.proofs.Open.{IsPropagated-from_held}
use Rattle.depth_first.proofs.PropagationLemmas.{IsPropagatedUpTo-push, IsPropagatedUpTo-propagated}

-- the clauses of a set and of a log with one more step
pub clauses_with-push : (set : Cnf) (log : List Step) (step : Step) → clauses_with set (log ++ step ∷ []) ≡ clauses_with set log ++ step.clause ∷ []
clauses_with-push set log step =
    ap (λ cs. all_clauses set ++ cs) (map-append (λ (s : Step). s.clause) log (step ∷ []))
    ∙ sym (append_assoc (all_clauses set) (clauses_of_steps log) (step.clause ∷ []))

pub clauses_of_steps-push : (log : List Step) (step : Step) → clauses_of_steps (log ++ step ∷ []) ≡ clauses_of_steps log ++ step.clause ∷ []
clauses_of_steps-push log step = map-append (λ (s : Step). s.clause) log (step ∷ [])

pub length-clauses_with : (set : Cnf) (log : List Step) → length (clauses_with set log) ≡ length (all_clauses set) + length log
length-clauses_with set log =
    length-append (all_clauses set) (clauses_of_steps log) ∙ ap (λ n. length (all_clauses set) + n) (length-map log (λ (s : Step). s.clause))

-- a literal that is unit in a clause of a number is so with more clauses behind
pub NamesUnit-more : (clauses more : List (List Lit)) (held : List Lit) (number : ℕ) (l : Lit) → NamesUnit clauses held number l → NamesUnit (clauses ++ more) held number l
NamesUnit-more clauses more held number l (clause, at, unit) = (clause, slice_get_left clauses more number clause at, unit)

pub AllPropagated-left : (clauses more : List (List Lit)) (held : List Lit) → AllPropagated (clauses ++ more) held → AllPropagated clauses held
AllPropagated-left clauses more held propagated number clause at = propagated number clause (slice_get_left clauses more number clause at)

pub AllPropagated-push : (clauses : List (List Lit)) (clause held : List Lit) → AllPropagated clauses held → IsPropagated held clause → AllPropagated (clauses ++ clause ∷ []) held
AllPropagated-push clauses clause held propagated new number d at =
    elim (slice_get_push_cases clauses clause number d at) [
      | inl before ↦ propagated number d before
      | inr here ↦ subst (IsPropagated held) here.1 new
    ]

-- where a literal was decided, all clauses were propagated
pub decided_from : (set : Cnf) (log : List Step) (held : List Lit) (l : Lit) (cause : Cause) → is_decision cause ≡ true → IsCaused set log held l cause → IsDecided set log held l
decided_from set log held l InputDecision is caused = caused.0
decided_from set log held l NonInputDecision is caused = caused.0
decided_from set log held l (Reason number) is caused = cc

-- each entry with a reason was unit in the clause of its reason
pub EachForced-from_caused : (set : Cnf) (log : List Step) (entries : List Entry) → EachCaused set log entries → EachForced (clauses_with set log) entries
EachForced-from_caused set log entries caused =
    record {
      each = λ place e number at is.
          subst (IsCaused set log (literals (take place entries)) e.literal) is (caused place e at);
    }

-- the causes of a trail hold good where it grows by entries that clauses of the set forced
pub EachCaused-grown : (set : Cnf) (log : List Step) (old new : List Entry) → Grows (all_clauses set) old new → EachCaused set log old → EachCaused set log new
EachCaused-grown set log old new g caused =
    subst (EachCaused set log) (sym g.is) (λ place e at.
    elim (slice_get_cases old g.more place e at) [
      | inl left ↦
          subst (λ es. IsCaused set log (literals es) e.literal e.cause) (sym (take_left old g.more place e left)) (caused place e left)
      | inr (j, is, right) ↦
          let (number, cause, unit) = g.forced j e right in
          let held = literals (take place (old ++ g.more)) in
          let here : NamesUnit (all_clauses set) held number e.literal =
          subst (λ es. NamesUnit (all_clauses set) (literals es) number e.literal) (sym (take_right old g.more place j is)) unit in
          subst (IsCaused set log held e.literal) (sym cause) (NamesUnit-more (all_clauses set) (clauses_of_steps log) held number e.literal here)
    ])

pub AllSatisfied-left : (old more : List Entry) (log : List Step) → AllSatisfied (literals old) log → AllSatisfied (literals (old ++ more)) log
AllSatisfied-left old more log satisfied number clause at =
    let (l, within, is) = satisfied number clause at in (l, within, literals_left old more l is)

pub IsState-grown : (set : Cnf) (log : List Step) (old new : List Entry) (head next : ℕ) → Grows (all_clauses set) old new → IsPropagatedUpTo (all_clauses set) new next → IsState set log old head → IsState set log new next
IsState-grown set log old new head next g up_to_head state =
    record {
      caused = EachCaused-grown set log old new g state.caused;
      satisfied = subst (λ es. AllSatisfied (literals es) log) (sym g.is) (AllSatisfied-left old g.more log state.satisfied);
      up_to_head = up_to_head;
      log_learned = state.log_learned;
    }

-- where all clauses of the set are propagated, those of the log are too, since what is held satisfies them
pub AllPropagated-with : (set : Cnf) (log : List Step) (held : List Lit) → Consistent held → AllPropagated (all_clauses set) held → AllSatisfied held log → AllPropagated (clauses_with set log) held
AllPropagated-with set log held ok propagated satisfied number clause at =
    elim (slice_get_cases (all_clauses set) (clauses_of_steps log) number clause at) [
      | inl left ↦ propagated number clause left
      | inr (j, is, right) ↦
          let (l, within, holds) = satisfied j clause right in
          IsPropagated-from_held held clause l ok within holds
    ]

caused_by_next : (set : Cnf) (log : List Step) (held : List Lit) (l : Lit) (cause : Cause) → IsDecided set log held l → IsAllowed set held l.variable cause → IsCaused set log held l cause
caused_by_next set log held l InputDecision decided allowed = (decided, allowed)
caused_by_next set log held l NonInputDecision decided allowed = (decided, allowed)
caused_by_next set log held l (Reason number) decided allowed = absurd allowed

-- the state after a decision
pub IsState-decided : (set : Cnf) (log : List Step) (entries : List Entry) (head : ℕ) (e : Entry) → Consistent (literals entries) → IsState set log entries head → AllPropagated (all_clauses set) (literals entries) → IsNext set (literals entries) e → IsState set log (entries ++ e ∷ []) (length entries)
IsState-decided set log entries head e ok state propagated next =
    let held = literals entries in
    let decided : IsDecided set log held e.literal =
    record {
      propagated = AllPropagated-with set log held ok propagated state.satisfied;
      learned = λ number clause at. inl (state.satisfied number clause at);
    } in
    record {
      caused = λ place f at.
          elim (slice_get_push_cases entries e place f at) [
            | inl left ↦
                subst (λ es. IsCaused set log (literals es) f.literal f.cause) (sym (take_left entries (e ∷ []) place f left)) (state.caused place f left)
            | inr here ↦
                let before : take place (entries ++ e ∷ []) ≡ entries = ap (λ k. take k (entries ++ e ∷ [])) here.0 ∙ take_whole entries (e ∷ []) in
                subst (λ es. IsCaused set log (literals es) f.literal f.cause) (sym before)
                (subst (λ (g : Entry). IsCaused set log held g.literal g.cause) here.1 (caused_by_next set log held e.literal e.cause decided next.allowed))
          ];
      satisfied = AllSatisfied-left entries (e ∷ []) log state.satisfied;
      up_to_head = IsPropagatedUpTo-push (all_clauses set) entries e (length entries) (omega arith) (IsPropagatedUpTo-propagated (all_clauses set) entries (length entries) propagated);
      log_learned = state.log_learned;
    }

-- the negations of the negations are the literals
pub negations_twice : (ls : List Lit) → negations_of (negations_of ls) ≡ ls
negations_twice [] = refl
negations_twice (l ∷ ls) = ap (λ m. m ∷ negations_of (negations_of ls)) (negation-negation l) ∙ ap (λ ms. l ∷ ms) (negations_twice ls)

pub negated_in : (ls : List Lit) (l : Lit) → is_held ls l ≡ true → is_held (negations_of ls) (negation_of l) ≡ true
negated_in [] l h = h
negated_in (m ∷ ms) l h =
    elim (or_cases (is_same l m) (is_held ms l) h) [
      | inl same ↦
          or_left (is_same (negation_of l) (negation_of m)) (is_held (negations_of ms) (negation_of l))
          (subst (λ k. is_same (negation_of l) (negation_of k) ≡ true) (is_same-true l m same) (is_same-self (negation_of l)))
      | inr rest ↦ or_right (is_same (negation_of l) (negation_of m)) (is_held (negations_of ms) (negation_of l)) (negated_in ms l rest)
    ]

-- a log with one more step
module _ (set : Cnf) (log : List Step) (step : Step) where
  pub before_left : (place : ℕ) (s : Step) → slice_get log place ≡ Some s → clauses_before set (log ++ step ∷ []) place ≡ clauses_before set log place
  before_left place s at = ap (λ ss. all_clauses set ++ clauses_of_steps ss) (take_left log (step ∷ []) place s at)

  before_last : (place : ℕ) → place ≡ length log → clauses_before set (log ++ step ∷ []) place ≡ clauses_with set log
  before_last place is =
      ap (λ ss. all_clauses set ++ clauses_of_steps ss) (ap (λ k. take k (log ++ step ∷ [])) is ∙ take_whole log (step ∷ []))

  pub LogFollows-push : LogFollows set log → StepFollows set (clauses_with set log) step → LogFollows set (log ++ step ∷ [])
  LogFollows-push follows last place s at =
      elim (slice_get_push_cases log step place s at) [
        | inl left ↦ subst (λ cs. StepFollows set cs s) (sym (before_left place s left)) (follows place s left)
        | inr here ↦
            subst (λ cs. StepFollows set cs s) (sym (before_last place here.0)) (subst (StepFollows set (clauses_with set log)) here.1 last)
      ]

  pub LogIsNew-push : LogIsNew set log → IsNew (clauses_with set log) step.clause → LogIsNew set (log ++ step ∷ [])
  LogIsNew-push new last place s at =
      elim (slice_get_push_cases log step place s at) [
        | inl left ↦ subst (λ cs. IsNew cs s.clause) (sym (before_left place s left)) (new place s left)
        | inr here ↦
            subst (λ cs. IsNew cs s.clause) (sym (before_last place here.0))
            (subst (λ (t : Step). IsNew (clauses_with set log) t.clause) here.1 last)
      ]

  pub NoneEmpty-push : NoneEmpty log → ¬ (step.clause ≡ []) → NoneEmpty (log ++ step ∷ [])
  NoneEmpty-push none last place s at empty =
      elim (slice_get_push_cases log step place s at) [
        | inl left ↦ none place s left empty
        | inr here ↦ last (ap (λ (t : Step). t.clause) here.1 ∙ empty)
      ]

-- the variables of the negated decisions are the set's
within_one : (count : ℕ) (b : Bool) (e : Entry) (ds : List Entry) → IsVariable count e.literal.variable → IsWithin count (negations_of (literals ds)) → IsWithin count (negations_of (literals (cond b (e ∷ ds) ds)))
within_one count true e ds is within = All-cons (λ k. IsVariable count k.variable) (negation_of e.literal) (negations_of (literals ds)) is within
within_one count false e ds is within = within

pub decisions_within : (count : ℕ) (entries : List Entry) → ((place : ℕ) (e : Entry) → slice_get entries place ≡ Some e → IsVariable count e.literal.variable) → IsWithin count (negations_of (decisions entries))
decisions_within count [] each = All-nil (λ k. IsVariable count k.variable)
decisions_within count (e ∷ es) each =
    within_one count (is_decision e.cause) e (filter (λ (f : Entry). is_decision f.cause) es) (each 0 e refl)
    (decisions_within count es (λ place f at. each (suc place) f at))

-- the negations of literals that are held are all false
pub all_false : (ds held : List Lit) → HeldWithin ds held → IsFalsified held (negations_of ds)
all_false [] held within = All-nil (λ l. is_false held l ≡ true)
all_false (d ∷ ds) held within =
    All-cons (λ l. is_false held l ≡ true) (negation_of d) (negations_of ds)
    (ap (is_held held) (negation-negation d) ∙ within.each d (or_left (is_same d d) (is_held ds d) (is_same-self d)))
    (all_false ds held (record { each = λ l h. within.each l (or_right (is_same l d) (is_held ds l) h) }))

pub remove_last : {X : Type 0} (xs : List X) (x : X) → remove (xs ++ x ∷ []) (length xs) ≡ xs
remove_last xs x =
    ap (λ ys. take (length xs) (xs ++ x ∷ []) ++ ys) (drop_all (suc (length xs)) (xs ++ x ∷ []) (omega (arith, length-append xs (x ∷ []))))
    ∙ append-nil (take (length xs) (xs ++ x ∷ []))
    ∙ take_whole xs (x ∷ [])

pub closed_from_propagated : (clauses : List (List Lit)) (held : List Lit) → AllPropagated clauses held → IsClosed clauses held
closed_from_propagated clauses held propagated =
    record {
      none_false = λ number clause at. (propagated number clause at).not_false;
      units_held = λ number clause l at unit. (propagated number clause at).forced_held l unit;
    }
