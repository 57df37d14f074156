-- The watches and the reasons after a conflict, with the learned clause and the entries that are left.
use Rattle.first_uip.proofs.Common.{◌≡◌, ℕ, ◌+◌, ◌*◌, ◌<◌, ◌≤◌, true, false, List, [], ◌∷◌, ◌++◌, Option, Some, None, length, take, sym, ap, ◌∙◌, arith, inl, inr, subst, slice_get, MatchOption, All, cases_Bool, true≢false, length-take-le, All-nil, Cnf, Step, Lit, code_of, is_same, IsWithin, IsUnit, NamesUnit, is_held, is_false, StepFollows, IsNew, clauses_with, is_same-true, unit_from, differ, HeldWithin, Entry, Reason, literals, is_decision, IsOpen, IsLearned, IsSatisfied, slice_get_below, slice_get_last, slice_get_left, slice_get_push_cases, slice_get_take, take_in_take, take_left, take_whole, take_take_below, HeldWithin-take, held_last, literals-append, open_within, open_not_false, variable_within, code_within, LogFollows-push, LogIsNew-push, NoneEmpty-push, EachForced, Watches, Watched, Alone, Two, watched_literals, IsWatch, IsGuarded, IsWatching, IsWatchingUpTo, DecidedAt, IsAsserting, IsOther, IsPair}
use Rattle.first_uip.proofs.Guards.{guard_satisfied}
use Rattle.first_uip.proofs.Additions.{IsAdded, IsWatchingUpTo-add, IsWatchingUpTo-push, IsWatchingUpTo-cut}
use Rattle.first_uip.proofs.StartLemmas.{All-two}

-- what a learned clause watches: the asserting literal and another one, or nothing where it has no other
abbrev pub IsWatchFor : Lit → Option Lit → Watched → Type 0
IsWatchFor u other w = MatchOption other (w ≡ Alone) (λ l. w ≡ Two u l)

pub learnt_watch : (entries : List Entry) (jump : ℕ) (clause : List Lit) (u : Lit) (other : Option Lit) (w : Watched) → IsWatchFor u other w → IsAsserting entries jump clause u → IsOther entries jump clause u other → IsWatch clause w
learnt_watch entries jump clause u None w is asserting another = subst (IsWatch clause) (sym is) tt
learnt_watch entries jump clause u (Some o) w is asserting (stands, differs, kept) = subst (IsWatch clause) (sym is) (asserting.stands, stands, differs)

pub watch_pair : (entries : List Entry) (jump : ℕ) (clause : List Lit) (u : Lit) (other : Option Lit) (w : Watched) → IsWatchFor u other w → IsOther entries jump clause u other → IsPair w
watch_pair entries jump clause u None w is another = subst IsPair (sym is) tt
watch_pair entries jump clause u (Some o) w is (stands, differs, kept) = subst IsPair (sym is) differs

pub watch_within : (set : Cnf) (size : ℕ) (entries : List Entry) (jump : ℕ) (clause : List Lit) (u : Lit) (other : Option Lit) (w : Watched) → size ≡ 2 * (set.count + 1) → IsWithin set.count clause → IsWatchFor u other w → IsAsserting entries jump clause u → IsOther entries jump clause u other → All (λ (l : Lit). code_of l < size) (watched_literals w)
watch_within set size entries jump clause u None w room within is asserting another =
    subst (λ v. All (λ (l : Lit). code_of l < size) (watched_literals v)) (sym is) (All-nil (λ (l : Lit). code_of l < size))
watch_within set size entries jump clause u (Some o) w room within is asserting (stands, differs, kept) =
    let fits : (l : Lit) → is_held clause l ≡ true → code_of l < size =
    λ l h. code_within l (set.count + 1) size (omega (arith, (variable_within set.count clause l within h).1)) room in
    subst (λ v. All (λ (l : Lit). code_of l < size) (watched_literals v)) (sym is)
    (All-two (λ (l : Lit). code_of l < size) u o (fits u asserting.stands) (fits o stands))

-- the variable of the asserting literal is open at each place before the backjump's too
open_before : (entries : List Entry) (jump k : ℕ) (clause : List Lit) (u : Lit) → k ≤ jump → IsAsserting entries jump clause u → IsOpen (literals (take k entries)) u.variable
open_before entries jump k clause u before asserting =
    open_within (literals (take k entries)) (literals (take jump entries)) u.variable
    (subst (λ es. HeldWithin (literals es) (literals (take jump entries))) (take_take_below k jump entries before) (HeldWithin-take k (take jump entries)))
    asserting.unset

-- before each decision that is left, the clause is guarded: neither of its watched literals is false
learnt_level : (entries : List Entry) (jump : ℕ) (clause : List Lit) (u : Lit) (other : Option Lit) (w : Watched) → IsWatchFor u other w → IsAsserting entries jump clause u → IsOther entries jump clause u other → (k : ℕ) (held : List Lit) → k < jump → DecidedAt entries k → IsGuarded (literals (take k entries)) held clause w
learnt_level entries jump clause u None w is asserting (only, none) k held before (d, at, decides) =
    absurd (true≢false (sym decides ∙ none k d (omega arith) before at))
learnt_level entries jump clause u (Some o) w is asserting (stands, differs, kept) k held before decided =
    let unset = open_before entries jump k clause u (omega arith) asserting in
    subst (IsGuarded (literals (take k entries)) held clause) (sym is) (
      λ closed. absurd (true≢false (sym closed ∙ open_not_false (literals (take k entries)) u unset)),
      λ closed. absurd (true≢false (sym closed ∙ kept k before decided)),
    )

pub IsLearned-push : (set : Cnf) (log : List Step) (step : Step) → IsLearned set log → StepFollows set (clauses_with set log) step → IsNew (clauses_with set log) step.clause → (step.clause ≡ [] → ⊥) → IsLearned set (log ++ step ∷ [])
IsLearned-push set log step learned follows new not_empty =
    record {
      follows = LogFollows-push set log step learned.follows follows;
      new = LogIsNew-push set log step learned.new new;
      none_empty = NoneEmpty-push set log step learned.none_empty not_empty;
    }

-- The entries that are left have their reasons before them still, with one more clause too.
pub EachForced-cut : (clauses : List (List Lit)) (clause : List Lit) (entries : List Entry) (place : ℕ) → EachForced clauses entries → EachForced (clauses ++ clause ∷ []) (take place entries)
EachForced-cut clauses clause entries place forced =
    record {
      each = λ k e number at cause.
          let (there, below) = slice_get_take place entries k e at in
          let (named, found, unit) = forced.each k e number there cause in
          (named, slice_get_left clauses (clause ∷ []) number named found, subst (λ es. IsUnit (literals es) named e.literal) (sym (take_in_take place entries k e at)) unit);
    }

pub EachForced-push : (clauses : List (List Lit)) (entries : List Entry) (e : Entry) (number : ℕ) → e.cause ≡ Reason number → NamesUnit clauses (literals entries) number e.literal → EachForced clauses entries → EachForced clauses (entries ++ e ∷ [])
EachForced-push clauses entries e number is unit forced =
    record {
      each = λ k f n at cause.
          elim (slice_get_push_cases entries e k f at) [
            | inl before ↦
                subst (λ es. NamesUnit clauses (literals es) n f.literal) (sym (take_left entries (e ∷ []) k f before)) (forced.each k f n before cause)
            | inr (last, same) ↦
                let numbers : number ≡ n = reason_same number n (sym is ∙ ap (λ (g : Entry). g.cause) same ∙ cause) in
                let whole : take k (entries ++ e ∷ []) ≡ entries = ap (λ i. take i (entries ++ e ∷ [])) last ∙ take_whole entries (e ∷ []) in
                subst (λ es. NamesUnit clauses (literals es) n f.literal) (sym whole)
                (subst (λ m. NamesUnit clauses (literals entries) m f.literal) numbers (subst (λ (g : Entry). NamesUnit clauses (literals entries) number g.literal) same unit))
          ];
    }
  where
    reason_same : (n m : ℕ) → Reason n ≡ Reason m → n ≡ m
    reason_same n m q = cc

-- after the backjump the asserting literal is unit in the learned clause
asserted_unit : (clauses : List (List Lit)) (clause : List Lit) (entries : List Entry) (jump number : ℕ) (u : Lit) → number ≡ length clauses → IsAsserting entries jump clause u → NamesUnit (clauses ++ clause ∷ []) (literals (take jump entries)) number u
asserted_unit clauses clause entries jump number u is asserting =
    let held = literals (take jump entries) in
    let kept : is_false held u ≡ false = open_not_false held u asserting.unset in (
      clause,
      ap (slice_get (clauses ++ clause ∷ [])) is ∙ slice_get_last clauses clause,
      unit_from held clause u asserting.stands kept (λ m stands open_m.
          elim (cases_Bool (is_same m u)) [
            | inl same ↦ is_same-true m u same
            | inr isnt ↦ absurd (true≢false (sym (asserting.others m stands (differ m u isnt)) ∙ open_m))
          ]),
    )

module _ (clauses : List (List Lit)) (clause : List Lit) (old new : Watches) (w : Watched) (entries : List Entry) (place jump : ℕ) (u : Lit) (other : Option Lit) (added : IsAdded old new clause w) (watch : IsWatchFor u other w) (asserting : IsAsserting entries jump clause u) (another : IsOther entries jump clause u other) (decided : DecidedAt entries place) (watching : IsWatching clauses old entries) where
  left : IsWatchingUpTo clauses old (take place entries) place
  left = IsWatchingUpTo-cut clauses old entries place decided.0 decided.1 decided.2 watching

  levels : place ≤ jump → (k : ℕ) (d : Entry) → slice_get (take place entries) k ≡ Some d → is_decision d.cause ≡ true → (held : List Lit) → IsGuarded (literals (take k (take place entries))) held clause w
  levels before k d at decides held =
      let (there, below) = slice_get_take place entries k d at in
      subst (λ es. IsGuarded (literals es) held clause w) (sym (take_in_take place entries k d at))
      (learnt_level entries jump clause u other w watch asserting another k held (omega (arith, below, before)) (d, there, decides))

  -- a restart goes back further than the clause asserts: no literal is pushed
  pub learnt_left : place < jump → IsWatchingUpTo (clauses ++ clause ∷ []) new (take place entries) place
  learnt_left before =
      let first = take place entries in
      let same : take place first ≡ first = take_take_below place place entries (omega arith) in
      IsWatchingUpTo-add clauses clause old new w first place added (learnt_watch entries jump clause u other w watch asserting another)
      (λ k d at decides. levels (omega arith) k d at decides (literals (take k first)))
      (subst (λ es. IsGuarded (literals es) (literals first) clause w) (sym same) (learnt_level entries jump clause u other w watch asserting another place (literals first) before decided))
      left

  -- the backjump goes back just as far: the asserting literal is pushed
  pub learnt_asserted : (e : Entry) → place ≡ jump → e.literal ≡ u → is_decision e.cause ≡ false → IsWatchingUpTo (clauses ++ clause ∷ []) new (take place entries ++ e ∷ []) place
  learnt_asserted e here is reason =
      let first = take place entries in
      let all = first ++ e ∷ [] in
      let size : length first ≡ place = length-take-le place entries (omega (arith, slice_get_below entries place decided.0 decided.1)) in
      let now_held : is_held (literals all) u ≡ true =
      ap (λ ls. is_held ls u) (literals-append first (e ∷ [])) ∙ ap (λ l. is_held (literals first ++ l ∷ []) u) is ∙ held_last (literals first) u in
      let satisfied : IsSatisfied (literals all) clause = (u, asserting.stands, now_held) in
      IsWatchingUpTo-add clauses clause old new w all place added (learnt_watch entries jump clause u other w watch asserting another)
      (λ k d at decides.
      elim (slice_get_push_cases first e k d at) [
        | inl before ↦
            let same : take k all ≡ take k first = take_left first (e ∷ []) k d before in
            subst (λ es. IsGuarded (literals es) (literals es) clause w) (sym same) (levels (omega arith) k d before decides (literals (take k first)))
        | inr (last, is_last) ↦ absurd (true≢false (sym decides ∙ sym (ap (λ (g : Entry). is_decision g.cause) is_last) ∙ reason))
      ])
      (guard_satisfied (literals (take place all)) (literals all) clause w satisfied)
      (IsWatchingUpTo-push clauses old first e place (omega (arith, size)) reason left)

-- the entries that are left and the asserting literal have their reasons before them
pub EachForced-asserted : (clauses : List (List Lit)) (clause : List Lit) (entries : List Entry) (place jump number : ℕ) (u : Lit) (e : Entry) → place ≡ jump → number ≡ length clauses → IsAsserting entries jump clause u → e.literal ≡ u → e.cause ≡ Reason number → EachForced clauses entries → EachForced (clauses ++ clause ∷ []) (take place entries ++ e ∷ [])
EachForced-asserted clauses clause entries place jump number u e here is asserting literal cause forced =
    let unit : NamesUnit (clauses ++ clause ∷ []) (literals (take place entries)) number e.literal =
    subst (λ l. NamesUnit (clauses ++ clause ∷ []) (literals (take place entries)) number l) (sym literal)
    (subst (λ n. NamesUnit (clauses ++ clause ∷ []) (literals (take n entries)) number u) (sym here) (asserted_unit clauses clause entries jump number u is asserting)) in
    EachForced-push (clauses ++ clause ∷ []) (take place entries) e number cause unit (EachForced-cut clauses clause entries place forced)
