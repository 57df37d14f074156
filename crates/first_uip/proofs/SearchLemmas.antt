-- The steps of a search, and why its answers are right.
use Rattle.first_uip.proofs.Common.{◌≡◌, ℕ, ◌+◌, ◌-◌, ◌<◌, Bool, get_or, Option, false, List, [], ◌∷◌, ◌++◌, Some, length, take, drop, map, refl, sym, ap, ◌∙◌, arith, inl, inr, subst, slice_get, true≢false, take_all, append-nil, slice_get-get_or, Cnf, Step, Lit, IsVariable, VariablesWithin, NamesUnit, all_clauses, clauses_of_steps, clauses_with, IsClosed, not_UnitsRefute, Entry, Cause, InputDecision, NonInputDecision, Reason, IsModel, IsHonestLimit, distinct_count, literals, decisions, is_decision, Grows, IsSet, IsTableOf, value_or_false, AllPropagated, IsCaused, EachCaused, IsLearned, with_within, slice_get_below, slice_get_cases, slice_get_push_cases, take_left, take_right, Consistent, Consistent-within, HeldWithin-take, Consistent-from_table, AllPropagated-left, closed_from_propagated, IsModel-from_propagated, none_decided, IsLearned-start, EachForced, Watches, EachGuarded, IsWatching, IsWatchingUpTo, DecidedAt, NoneDecided, IsSearching, clauses_in, watched_in}
use Rattle.first_uip.proofs.Guards.{AllPropagated-from_guarded}
use Rattle.first_uip.proofs.Additions.{IsWatchingUpTo-decide}

-- a trail without decisions
pub no_decisions : (entries : List Entry) → NoneDecided entries 0 (length entries) → decisions entries ≡ []
no_decisions entries none = none_decided entries (λ place e at. none place e (omega arith) (slice_get_below entries place e at) at)

caused_by : (set : Cnf) (log : List Step) (held : List Lit) (l : Lit) (cause : Cause) → is_decision cause ≡ false → ((number : ℕ) → cause ≡ Reason number → NamesUnit (clauses_with set log) held number l) → IsCaused set log held l cause
caused_by set log held l InputDecision undecided forced = absurd (true≢false undecided)
caused_by set log held l NonInputDecision undecided forced = absurd (true≢false undecided)
caused_by set log held l (Reason number) undecided forced = forced number refl

pub EachCaused-from_forced : (set : Cnf) (log : List Step) (entries : List Entry) → EachForced (clauses_with set log) entries → NoneDecided entries 0 (length entries) → EachCaused set log entries
EachCaused-from_forced set log entries forced none place e at =
    caused_by set log (literals (take place entries)) e.literal e.cause (none place e (omega arith) (slice_get_below entries place e at) at) (λ number is. forced.each place e number at is)

-- a trail that grew by propagation has each reason before its entry
pub EachForced-grown : (clauses : List (List Lit)) (old new : List Entry) → Grows clauses old new → EachForced clauses old → EachForced clauses new
EachForced-grown clauses old new g forced =
    record {
      each = λ place e number at cause.
          let split : slice_get (old ++ g.more) place ≡ Some e = sym (ap (λ es. slice_get es place) g.is) ∙ at in
          elim (slice_get_cases old g.more place e split) [
            | inl before ↦
                let same : take place new ≡ take place old = ap (take place) g.is ∙ take_left old g.more place e before in
                subst (λ es. NamesUnit clauses (literals es) number e.literal) (sym same) (forced.each place e number before cause)
            | inr (j, is, later) ↦
                let (n, reason, unit) = g.forced j e later in
                let numbers : n ≡ number = reason_same n number (sym reason ∙ cause) in
                let same : take place new ≡ old ++ take j g.more = ap (take place) g.is ∙ take_right old g.more place j is in
                subst (λ es. NamesUnit clauses (literals es) number e.literal) (sym same)
                (subst (λ m. NamesUnit clauses (literals (old ++ take j g.more)) m e.literal) numbers unit)
          ];
    }
  where
    reason_same : (n m : ℕ) → Reason n ≡ Reason m → n ≡ m
    reason_same n m q = cc

-- the state before each decision is closed under unit propagation
pub closed_before : (clauses : List (List Lit)) (watches : Watches) (values : List (Option Bool)) (entries : List Entry) (place : ℕ) → IsTableOf values entries → DecidedAt entries place → IsWatching clauses watches entries → IsClosed clauses (literals (take place entries))
closed_before clauses watches values entries place table (e, at, decides) watching =
    let held = literals (take place entries) in
    let ok : Consistent held = Consistent-within held (literals entries) (HeldWithin-take place entries) (Consistent-from_table values entries table) in
    closed_from_propagated clauses held (AllPropagated-from_guarded clauses (watched_in watches.arena) held ok watching.count watching.each (watching.levels place e at decides))

-- where all entries were propagated and each variable has a value, the values are a model
pub model_found : (set : Cnf) (log : List Step) (watches : Watches) (values : List (Option Bool)) (entries : List Entry) → IsTableOf values entries → length values ≡ set.count + 1 → IsWatchingUpTo (clauses_with set log) watches entries (length entries) → ((n : ℕ) → IsVariable set.count n → IsSet (literals entries) n) → IsModel set (map value_or_false (drop 1 values))
model_found set log watches values entries table size state all =
    let cs = clauses_with set log in
    let guarded : EachGuarded cs (watched_in watches.arena) (literals entries) (literals entries) =
    subst (λ es. EachGuarded cs (watched_in watches.arena) (literals es) (literals entries)) (take_all (length entries) entries (omega arith)) state.guarded in
    let propagated : AllPropagated cs (literals entries) =
    AllPropagated-from_guarded cs (watched_in watches.arena) (literals entries) (Consistent-from_table values entries table) state.watching.count state.watching.each guarded in
    IsModel-from_propagated set values entries table size (AllPropagated-left (all_clauses set) (clauses_of_steps log) (literals entries) propagated) all

-- A conflict below a decision: the state before the decision is closed, so unit propagation alone refutes nothing, and
-- the limit may be answered.
pub limit_found : (set : Cnf) (log : List Step) (limit : ℕ) (held : List Lit) → length log ≡ limit → IsLearned set log → IsClosed (clauses_with set log) held → 12 < distinct_count set.inputs → IsHonestLimit set limit log
limit_found set log limit held exact learned closed many =
    record {
      exact = exact;
      none_empty = learned.none_empty;
      follows = learned.follows;
      new = learned.new;
      units_fail = not_UnitsRefute (clauses_with set log) held closed;
      not_few = λ few. omega (arith, few.0, many);
    }

-- the state of the search after a decision
pub IsSearching-decided : (set : Cnf) (log : List Step) (watches : Watches) (old entries : List Entry) (e : Entry) → e.cause ≡ InputDecision → Grows (clauses_with set log) old entries → IsLearned set log → EachForced (clauses_with set log) old → IsWatchingUpTo (clauses_with set log) watches entries (length entries) → IsSearching set log watches (entries ++ e ∷ []) (length entries)
IsSearching-decided set log watches old entries e decision g learned forced state =
    let cs = clauses_with set log in
    let grown : EachForced cs entries = EachForced-grown cs old entries g forced in
    record {
      learned = learned;
      forced =
          record {
            each = λ place f number at cause.
                elim (slice_get_push_cases entries e place f at) [
                  | inl before ↦
                      subst (λ es. NamesUnit cs (literals es) number f.literal) (sym (take_left entries (e ∷ []) place f before)) (grown.each place f number before cause)
                  | inr (last, same) ↦ absurd (no_reason number (sym decision ∙ ap (λ (x : Entry). x.cause) same ∙ cause))
                ];
          };
      watching = IsWatchingUpTo-decide cs watches entries e state;
    }
  where
    no_reason : (n : ℕ) → InputDecision ≡ Reason n → ⊥
    no_reason n q = cc

-- the state of the search before any decision
pub IsSearching-start : (set : Cnf) (log : List Step) (watches : Watches) (entries : List Entry) → log ≡ [] → Grows (all_clauses set) [] entries → IsWatchingUpTo (all_clauses set) watches entries 0 → IsSearching set log watches entries 0
IsSearching-start set log watches entries none g state =
    let same : all_clauses set ≡ clauses_with set log =
    sym (ap (λ steps. all_clauses set ++ clauses_of_steps steps) none ∙ append-nil (all_clauses set)) in
    let nothing : EachForced (all_clauses set) [] = record { each = λ place e number at cause. let q : slice_get [] place ≡ Some e = at in cc } in
    record {
      learned = IsLearned-start set log none;
      forced = subst (λ cs. EachForced cs entries) same (EachForced-grown (all_clauses set) [] entries g nothing);
      watching = subst (λ cs. IsWatchingUpTo cs watches entries 0) same state;
    }

-- the variables of the arena's clauses are the set's
pub variables_within : (set : Cnf) (log : List Step) (watches : Watches) (entries : List Entry) (head n : ℕ) → n ≡ set.count + 1 → IsSearching set log watches entries head → VariablesWithin (n - 1) (clauses_in watches.arena)
variables_within set log watches entries head n room state =
    let cs = clauses_with set log in
    let count : set.count ≡ n - 1 = omega (arith, room) in
    subst (VariablesWithin (n - 1)) (sym state.watching.watching.same)
    (subst (λ m. VariablesWithin m cs) count (λ k d below. with_within set log k (get_or cs k d) state.learned.follows (slice_get-get_or cs k d below)))
