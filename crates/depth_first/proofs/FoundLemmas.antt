-- Why the answers of a search are right.
use Rattle.depth_first.proofs.Common.{◌≡◌, ℕ, ◌+◌, ◌-◌, ◌<◌, ◌≤◌, Bool, Option, true, false, not, cond, List, [], ◌∷◌, ◌++◌, Some, None, length, take, drop, map, get_or, refl, sym, ap, ◌∙◌, arith, inl, inr, subst, length-drop, get_or-drop, append_assoc, slice_get, All, cases_Bool, true≢false, or_cases, or_left, or_right, length-map, take-append-drop, length-take-le, get_or-map, map-append, All-nil, All-cons, All-head, All-tail, slice_get-get_or, Cnf, Step, Lit, negation_of, is_same, literal_of, literal_true, clause_true, assignment_of, IsVariable, IsFalsified, is_held, is_false, all_clauses, clauses_of_steps, clauses_before, LogFollows, LogIsNew, IsNew, StepFollows, UnitsDetermine, setting_literals, clauses_with, is_same-self, is_same-true, HeldWithin, HeldWithin-nil, HeldWithin-cons, IsClosed, Derives-within, not_SomeFalsified, not_UnitsRefute, Entry, Cause, NonInputDecision, IsModel, IsHonestLimit, NoneEmpty, literals, is_decision, IsOpen, IsSet, IsTableOf, value_makes, value_or_false, AllPropagated, InputsSet, IsCaused, IsLearned, IsDecided}
use Rattle.depth_first.proofs.Lists.{slice_get_left, slice_get_take, take_in_take}
use Rattle.depth_first.proofs.HeldLists.{not_held_nil, both_held}
use Rattle.depth_first.proofs.Open.{variable_within}
use Rattle.depth_first.proofs.Sets.{clause_within}
use Rattle.depth_first.proofs.States.{AllPropagated-left, closed_from_propagated, decided_from}

-- a clause that isn't false has a literal that isn't false
pub kept_literal : (held clause : List Lit) → ¬ (IsFalsified held clause) → (l : Lit) × (is_held clause l ≡ true) × (is_false held l ≡ false)
kept_literal held [] kept = absurd (kept (All-nil (λ l. is_false held l ≡ true)))
kept_literal held (m ∷ ms) kept =
    elim (cases_Bool (is_false held m)) [
      | inr free ↦ (m, or_left (is_same m m) (is_held ms m) (is_same-self m), free)
      | inl closed ↦
          let (l, stands, free) = kept_literal held ms (λ none. kept (All-cons (λ k. is_false held k ≡ true) m ms closed none)) in
          (l, or_right (is_same l m) (is_held ms l) stands, free)
    ]

value_is : (v : Option Bool) (n : ℕ) (b : Bool) → value_makes v (literal_of n b) ≡ true → v ≡ Some b
value_is None n b h = absurd (true≢false (sym h))
value_is (Some true) n true h = refl
value_is (Some false) n true h = absurd (true≢false (sym h))
value_is (Some true) n false h = absurd (true≢false (sym h))
value_is (Some false) n false h = refl

-- a literal of a variable with a value is true by that value where its negation isn't
true_by_value : (b : Bool) (l : Lit) → value_makes (Some b) (negation_of l) ≡ false → cond l.negated (not b) b ≡ true
true_by_value b l h = by_sign b l.negated h
  where
    by_sign : (b negated : Bool) → cond (not negated) (not b) b ≡ false → cond negated (not b) b ≡ true
    by_sign true true h = absurd (true≢false h)
    by_sign true false h = refl
    by_sign false true h = refl
    by_sign false false h = absurd (true≢false h)

any_true : (v : ℕ → Bool) (clause : List Lit) (l : Lit) → is_held clause l ≡ true → literal_true v l ≡ true → clause_true v clause ≡ true
any_true v [] l h is = absurd (not_held_nil l h)
any_true v (m ∷ ms) l h is =
    elim (or_cases (is_same l m) (is_held ms l) h) [
      | inl same ↦ or_left (literal_true v m) (clause_true v ms) (sym (ap (literal_true v) (is_same-true l m same)) ∙ is)
      | inr rest ↦ or_right (literal_true v m) (clause_true v ms) (any_true v ms l rest is)
    ]

-- a total assignment under which all clauses are propagated is a model
pub IsModel-from_propagated : (set : Cnf) (values : List (Option Bool)) (entries : List Entry) → IsTableOf values entries → length values ≡ set.count + 1 → AllPropagated (all_clauses set) (literals entries) → ((n : ℕ) → IsVariable set.count n → IsSet (literals entries) n) → IsModel set (map value_or_false (drop 1 values))
IsModel-from_propagated set values entries table room propagated all =
    let held = literals entries in
    let found = map value_or_false (drop 1 values) in
    let v = assignment_of found in
    let literal_is_true : (l : Lit) → IsVariable set.count l.variable → is_false held l ≡ false → literal_true v l ≡ true =
    λ l within kept.
    let n = l.variable in
    let (b, is) = all n within in
    let value : get_or values n None ≡ Some b = value_is (get_or values n None) n b (sym (table (literal_of n b)) ∙ is) in
    let place : 1 + (n - 1) ≡ n = omega (arith, within.0) in
    let inside : n - 1 < length (drop 1 values) = omega (arith, length-drop 1 values, room, within.0, within.1) in
    let at : v n ≡ b =
    get_or-map value_or_false (drop 1 values) (n - 1) None false inside
    ∙ ap value_or_false (get_or-drop 1 values (n - 1) None ∙ ap (λ k. get_or values k None) place ∙ value) in
    ap (λ c. cond l.negated (not c) c) at
    ∙ true_by_value b l (sym (ap (λ o. value_makes o (negation_of l)) value) ∙ sym (table (negation_of l)) ∙ kept) in
    record {
      each_variable = length-map (drop 1 values) value_or_false ∙ omega (arith, length-drop 1 values, room);
      meets = λ k d within.
          let clause = get_or (all_clauses set) k d in
          let at : slice_get (all_clauses set) k ≡ Some clause = slice_get-get_or (all_clauses set) k d within in
          let (l, stands, kept) = kept_literal held clause (propagated k clause at).not_false in
          any_true v clause l stands (literal_is_true l (variable_within set.count clause l (clause_within set k clause at) stands) kept);
    }

-- a log cut to its first n steps
module _ (set : Cnf) (log : List Step) (n : ℕ) where
  first_before : (place : ℕ) (s : Step) → slice_get (take n log) place ≡ Some s → clauses_before set (take n log) place ≡ clauses_before set log place
  first_before place s at = ap (λ ss. all_clauses set ++ clauses_of_steps ss) (take_in_take n log place s at)

  LogFollows-take : LogFollows set log → LogFollows set (take n log)
  LogFollows-take follows place s at =
      subst (λ cs. StepFollows set cs s) (sym (first_before place s at)) (follows place s (slice_get_take n log place s at).0)

  LogIsNew-take : LogIsNew set log → LogIsNew set (take n log)
  LogIsNew-take new place s at =
      subst (λ cs. IsNew cs s.clause) (sym (first_before place s at)) (new place s (slice_get_take n log place s at).0)

  NoneEmpty-take : NoneEmpty log → NoneEmpty (take n log)
  NoneEmpty-take none place s at = none place s (slice_get_take n log place s at).0

  AllPropagated-take : (held : List Lit) → AllPropagated (clauses_with set log) held → AllPropagated (clauses_with set (take n log)) held
  AllPropagated-take held propagated number clause at =
      let parts : clauses_with set log ≡ clauses_with set (take n log) ++ clauses_of_steps (drop n log) =
      sym (ap (λ ss. all_clauses set ++ clauses_of_steps ss) (take-append-drop n log))
      ∙ ap (λ cs. all_clauses set ++ cs) (map-append (λ (s : Step). s.clause) (take n log) (drop n log))
      ∙ sym (append_assoc (all_clauses set) (clauses_of_steps (take n log)) (clauses_of_steps (drop n log))) in
      propagated number clause
      (ap (λ cs. slice_get cs number) parts ∙ slice_get_left (clauses_with set (take n log)) (clauses_of_steps (drop n log)) number clause at)

-- the values that the state gives the inputs, as a setting
abbrev held_setting : List Lit → ℕ → Bool
held_setting held n = is_held held (literal_of n true)

set_false : (held : List Lit) (n : ℕ) (value : Bool) → is_held held (literal_of n value) ≡ true → is_held held (literal_of n true) ≡ false → is_held held (literal_of n false) ≡ true
set_false held n true is isnt = absurd (both_held held (literal_of n true) is isnt)
set_false held n false is isnt = is

setting_held : (held : List Lit) (inputs : List ℕ) → All (IsSet held) inputs → HeldWithin (map (λ n. literal_of n (held_setting held n)) inputs) held
setting_held held [] all = HeldWithin-nil held
setting_held held (n ∷ ns) all =
    let (value, is) = All-head (IsSet held) n ns all in
    let here : is_held held (literal_of n (held_setting held n)) ≡ true =
    elim (cases_Bool (held_setting held n)) [
      | inl on ↦ ap (λ b. is_held held (literal_of n b)) on ∙ on
      | inr off ↦ ap (λ b. is_held held (literal_of n b)) off ∙ set_false held n value is off
    ] in
    HeldWithin-cons (literal_of n (held_setting held n)) (map (λ m. literal_of m (held_setting held m)) ns) held here
    (setting_held held ns (All-tail (IsSet held) n ns all))

-- The inputs of the set don't determine the rest: all are set and all clauses are propagated, yet a variable has no
-- value.
not_determined : (set : Cnf) (held : List Lit) (n : ℕ) → AllPropagated (all_clauses set) held → InputsSet set held → IsVariable set.count n → IsOpen held n → ¬ (UnitsDetermine set)
not_determined set held n propagated inputs variable o determine =
    let cs = all_clauses set in
    let closed : IsClosed cs held = closed_from_propagated cs held propagated in
    let (moves, after, derives, ends) = determine (held_setting held) in
    let within : HeldWithin after held = Derives-within cs held closed (setting_literals set (held_setting held)) moves after (setting_held held set.inputs inputs) derives in
    elim ends [
      | inl all ↦
          let (value, is) = all n variable in
          both_held held (literal_of n value) (within.each (literal_of n value) is) (o value)
      | inr some ↦ not_SomeFalsified cs held after closed within some
    ]

inputs_set : (set : Cnf) (log : List Step) (held : List Lit) (l : Lit) (cause : Cause) → cause ≡ NonInputDecision → IsCaused set log held l cause → InputsSet set held
inputs_set set log held l cause is caused =
    let other : IsCaused set log held l NonInputDecision = subst (IsCaused set log held l) is caused in other.1

-- A conflict below a decision on a variable that is no input: the limit may be answered.
pub IsHonestLimit-from_conflict : (set : Cnf) (log : List Step) (limit : ℕ) (held : List Lit) (l : Lit) (cause : Cause) → limit ≤ length log → IsLearned set log → is_decision cause ≡ true → IsCaused set log held l cause → IsVariable set.count l.variable → IsOpen held l.variable → cause ≡ NonInputDecision → IsHonestLimit set limit (take limit log)
IsHonestLimit-from_conflict set log limit held l cause enough learned decides caused variable o late =
    let decided : IsDecided set log held l = decided_from set log held l cause decides caused in
    let first = take limit log in
    record {
      exact = length-take-le limit log enough;
      none_empty = NoneEmpty-take set log limit learned.none_empty;
      follows = LogFollows-take set log limit learned.follows;
      new = LogIsNew-take set log limit learned.new;
      units_fail =
          not_UnitsRefute (clauses_with set first) held
          (closed_from_propagated (clauses_with set first) held (AllPropagated-take set log limit held decided.propagated));
      not_few = λ few.
          not_determined set held l.variable (AllPropagated-left (all_clauses set) (clauses_of_steps log) held decided.propagated)
          (inputs_set set log held l cause late caused) variable o few.1;
    }
