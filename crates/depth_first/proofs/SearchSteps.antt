-- The steps of a search: its first state, why its weight falls, and how long its log can get.
use Rattle.depth_first.proofs.Common.{◌≡◌, ℕ, suc, ◌+◌, ◌<◌, ◌≤◌, Bool, Option, true, false, List, [], ◌∷◌, ◌++◌, Some, None, length, take, set, refl, sym, ap, ◌∙◌, arith, inl, inr, subst, slice_get, ◌⊎◌, Contains, IfSome, IfNone, length_push, Cnf, Step, Lit, negation_of, NamesFalse, all_clauses, clauses_of_steps, clauses_with, Entry, Cause, InputDecision, NonInputDecision, Reason, literals, decisions, is_decision, IsOpen, IsTableOf, EachFresh, Grows, open_count, distinct_count, IsPropagatedUpTo, IsCaused, EachCaused, IsLearned, IsState}
use Rattle.depth_first.proofs.Lists.{slice_get_left, slice_get_below}
use Rattle.depth_first.proofs.TrailTable.{open_count-push}
use Rattle.depth_first.proofs.States.{EachCaused-grown}
use Rattle.depth_first.proofs.Weight.{weight, weight_push, weight_grow, weight_flip}
use Rattle.depth_first.proofs.Leaves.{leaves, halves, halves_mono, leaves_le, leaves_grow, leaves_flip, input_count_le, is_among, is_among-from_contains, Different-from_fresh}

-- the empty log
nothing_learned : (set : Cnf) → IsLearned set []
nothing_learned set =
    record {
      follows = λ place step at. let none : slice_get [] place ≡ Some step = at in cc;
      new = λ place step at. let none : slice_get [] place ≡ Some step = at in cc;
      none_empty = λ place step at empty. let none : slice_get [] place ≡ Some step = at in cc;
    }

nothing_caused : (set : Cnf) → EachCaused set [] []
nothing_caused set place e at = let none : slice_get [] place ≡ Some e = at in cc

pub IsLearned-start : (set : Cnf) (log : List Step) → log ≡ [] → IsLearned set log
IsLearned-start set log none = subst (IsLearned set) (sym none) (nothing_learned set)

pub EachCaused-start : (set : Cnf) (log : List Step) (old new : List Entry) → log ≡ [] → old ≡ [] → Grows (all_clauses set) old new → EachCaused set log new
EachCaused-start set log old new no_log no_entries g =
    subst (λ steps. EachCaused set steps new) (sym no_log)
    (EachCaused-grown set [] [] new (subst (λ es. Grows (all_clauses set) es new) no_entries g) (nothing_caused set))

-- the first state, once each clause of the set was propagated once
pub IsState-start : (set : Cnf) (log : List Step) (old new : List Entry) → log ≡ [] → old ≡ [] → Grows (all_clauses set) old new → IsPropagatedUpTo (all_clauses set) new 0 → IsState set log new 0
IsState-start set log old new no_log no_entries g up_to_head =
    subst (λ steps. IsState set steps new 0) (sym no_log)
    (record {
      caused = EachCaused-grown set [] [] new (subst (λ es. Grows (all_clauses set) es new) no_entries g) (nothing_caused set);
      satisfied = λ number clause at. let none : slice_get [] number ≡ Some clause = at in cc;
      up_to_head = up_to_head;
      log_learned = nothing_learned set;
    })

pub none_decided : (entries : List Entry) → ((place : ℕ) (e : Entry) → slice_get entries place ≡ Some e → is_decision e.cause ≡ false) → decisions entries ≡ []
none_decided [] none = refl
none_decided (e ∷ es) none =
    let rest : decisions es ≡ [] = none_decided es (λ place f at. none (suc place) f at) in
    decided_one e es (is_decision e.cause) refl (none 0 e refl) rest
  where
    decided_one : (e : Entry) (es : List Entry) (b : Bool) → is_decision e.cause ≡ b → is_decision e.cause ≡ false → decisions es ≡ [] → decisions (e ∷ es) ≡ []
    decided_one e es b is isnt rest = simp isnt rest

-- a trail that clauses alone forced has no decision
pub no_decisions : (clauses : List (List Lit)) (old new : List Entry) → old ≡ [] → Grows clauses old new → decisions new ≡ []
no_decisions clauses old new none g =
    let same : new ≡ g.more = g.is ∙ ap (λ es. es ++ g.more) none in
    ap decisions same
    ∙ none_decided g.more (λ place e at. let forced = g.forced place e at in ap is_decision forced.1)

pub NamesFalse-with : (set : Cnf) (log : List Step) (held : List Lit) (number : ℕ) → NamesFalse (all_clauses set) held number → NamesFalse (clauses_with set log) held number
NamesFalse-with set log held number (clause, at, none) =
    (clause, slice_get_left (all_clauses set) (clauses_of_steps log) number clause at, none)

-- a trail with an open variable is shorter than the table of the variables
pub room_left : (values : List (Option Bool)) (entries : List Entry) (n : ℕ) → IsTableOf values entries → open_count values + length entries ≡ length values → n < length values → IsOpen (literals entries) n → length entries < length values
room_left values entries n table counted within o = omega (arith, counted, open_count-push values entries n true table within o)

-- the weight falls where a literal is decided
pub decided_smaller : (clauses : List (List Lit)) (n m : ℕ) (old new last : List Entry) (e : Entry) → m ≡ n → Grows clauses old new → last ≡ new ++ e ∷ [] → length new < n → weight m last < weight n old
decided_smaller clauses n m old new last e same g is room =
    omega (arith, ap (λ k. weight k last) same, ap (weight n) is, weight_push n new e room, ap (weight n) g.is, weight_grow n old g.more)

-- the weight falls where a decision is flipped
pub flipped_smaller : (clauses : List (List Lit)) (n m : ℕ) (old new last : List Entry) (place number : ℕ) (e f : Entry) → m ≡ n → Grows clauses old new → last ≡ take place new ++ f ∷ [] → length new ≤ n → slice_get new place ≡ Some e → is_decision e.cause ≡ true → f.cause ≡ Reason number → weight m last < weight n old
flipped_smaller clauses n m old new last place number e f same g is room at decides cause =
    let below : place < length new = slice_get_below new place e at in
    omega (arith, ap (λ k. weight k last) same, ap (weight n) is, weight_flip n new place e f number (omega arith) at decides cause, ap (weight n) g.is, weight_grow n old g.more)

-- The log is within the limit, or it and the settings of the inputs that are left come to at most 4096 more than the
-- limit.
abbrev pub IsBounded : Cnf → ℕ → List Step → List Entry → Type 0
IsBounded set limit log entries =
    (length log ≤ limit) ⊎ (length log + leaves (is_among set.inputs) entries (distinct_count set.inputs) ≤ limit + 4096)

pub bounded_length : (set : Cnf) (limit : ℕ) (log : List Step) (entries : List Entry) → IsBounded set limit log entries → length log ≤ limit + 4096
bounded_length set limit log entries (inl within) = omega arith
bounded_length set limit log entries (inr within) = omega arith

pub bounded_more : (set : Cnf) (limit : ℕ) (log : List Step) (old more new : List Entry) → new ≡ old ++ more → IsBounded set limit log old → IsBounded set limit log new
bounded_more set limit log old more new is (inl within) = inl within
bounded_more set limit log old more new is (inr within) =
    let input = is_among set.inputs in
    let left = distinct_count set.inputs in
    inr (omega (arith, within, ap (λ es. leaves input es left) is, leaves_grow input old more left))

pub bounded_grow : (set : Cnf) (limit : ℕ) (log : List Step) (old new : List Entry) → Grows (all_clauses set) old new → IsBounded set limit log old → IsBounded set limit log new
bounded_grow set limit log old new g bounded = bounded_more set limit log old g.more new g.is bounded

few_leaves : (n : ℕ) → n ≤ 12 → halves n ≤ 4096
few_leaves n few = halves_mono n 12 few

contained : (set : Cnf) (log : List Step) (held : List Lit) (l : Lit) (cause : Cause) → cause ≡ InputDecision → IsCaused set log held l cause → Contains set.inputs l.variable
contained set log held l cause is caused =
    let input : IsCaused set log held l InputDecision = subst (IsCaused set log held l) is caused in input.1

input_or_not : (cause : Cause) → is_decision cause ≡ true → (cause ≡ InputDecision) ⊎ (cause ≡ NonInputDecision)
input_or_not InputDecision is = inl refl
input_or_not NonInputDecision is = inr refl
input_or_not (Reason number) is = cc

-- the log stays bounded where a decision is flipped, since the search gives up below other decisions at the limit
pub bounded_flip : (set : Cnf) (limit : ℕ) (values : List (Option Bool)) (log : List Step) (entries : List Entry) (place number : ℕ) (e : Entry) (step : Step) → EachFresh values entries → EachCaused set log entries → slice_get entries place ≡ Some e → is_decision e.cause ≡ true → distinct_count set.inputs ≤ 12 → (length log < limit) ⊎ ((e.cause ≡ NonInputDecision) → ⊥) → IsBounded set limit log entries → IsBounded set limit (log ++ step ∷ []) (take place entries ++ (record { literal = negation_of e.literal; cause = Reason number }) ∷ [])
bounded_flip set limit values log entries place number e step fresh caused at decides few (inl room) bounded =
    inl (omega (arith, length_push log step))
bounded_flip set limit values log entries place number e step fresh caused at decides few (inr goes_on) bounded =
    let input = is_among set.inputs in
    let left = distinct_count set.inputs in
    let f : Entry = record { literal = negation_of e.literal; cause = Reason number } in
    let is : e.cause ≡ InputDecision = elim (input_or_not e.cause decides) [ inl is ↦ is | inr other ↦ absurd (goes_on other) ] in
    let among : input e.literal.variable ≡ true =
    is_among-from_contains set.inputs e.literal.variable (contained set log (literals (take place entries)) e.literal e.cause is (caused place e at)) in
    let room = input_count_le set.inputs entries (Different-from_fresh values entries fresh) in
    let falls = leaves_flip input e f number among decides refl refl entries place left at room in
    elim bounded [
      | inl within ↦ inr (omega (arith, within, falls, length_push log step, leaves_le input entries left, few_leaves left few))
      | inr both ↦ inr (omega (arith, both, falls, length_push log step))
    ]

-- what a contract on an option says of its value
pub IfSome_is : {X : Type 0} (o : Option X) (x : X) (P : X → Type 0) → o ≡ Some x → IfSome o P → P x
IfSome_is o x P is h = subst (λ r. IfSome r P) is h

pub IfNone_is : {X : Type 0} (o : Option X) (P : Type 0) → o ≡ None → IfNone o P → P
IfNone_is o P is h = subst (λ r. IfNone r P) is h
