-- What looking at a clause rests on when a literal that it watches became false.
use Rattle.first_uip.proofs.Common.{◌≡◌, ℕ, zero, suc, ◌<◌, true, false, List, [], ◌∷◌, Some, length, sym, ap, ◌∙◌, arith, inl, inr, subst, slice_get, All, Contains, get_or_from_slice_get, Lit, IsVariable, IsWithin, VariablesWithin, IsUnit, is_held, is_false, Contains-from_held, differ, Entry, IsSatisfied, element_at, slice_get_below, some_same, variable_within, Watched, Watcher, Watches, watched_in, numbers_in, IsWatch, EachIsWatch, IsWatching, EachBlocked, KeepsOnly, watchers_of, numbers_of, WatchesBoth, NamesHeld}

-- of two watched literals, the other one stands in the clause and differs from the first
pub other_stands : (clause : List Lit) (w : Watched) (l other : Lit) → IsWatch clause w → WatchesBoth w l other → (is_held clause other ≡ true) × ((other ≡ l) → ⊥)
other_stands clause w l other watch (inl is) = let (one, two, differ) = subst (IsWatch clause) is watch in (two, λ e. differ (sym e))
other_stands clause w l other watch (inr is) = let (one, two, differ) = subst (IsWatch clause) is watch in (one, differ)

-- the variables of the clause of each number are among these, as those of all clauses are
pub clause_within : (count : ℕ) (clauses : List (List Lit)) (number : ℕ) (clause : List Lit) → VariablesWithin count clauses → slice_get clauses number ≡ Some clause → IsWithin count clause
clause_within count clauses number clause within at =
    subst (IsWithin count) (get_or_from_slice_get clauses number clause clause at) (within number clause (slice_get_below clauses number clause at))

pub literal_within : (count : ℕ) (clauses : List (List Lit)) (number : ℕ) (clause : List Lit) (l : Lit) → VariablesWithin count clauses → slice_get clauses number ≡ Some clause → is_held clause l ≡ true → IsVariable count l.variable
literal_within count clauses number clause l within at stands = variable_within count clause l (clause_within count clauses number clause within at) stands

pub other_within : (count : ℕ) (clauses : List (List Lit)) (watched : List Watched) (number : ℕ) (w : Watched) (l other : Lit) → VariablesWithin count clauses → EachIsWatch clauses watched → length watched ≡ length clauses → slice_get watched number ≡ Some w → WatchesBoth w l other → IsVariable count other.variable
other_within count clauses watched number w l other within each size at both =
    let (clause, there) = element_at clauses number (omega (arith, size, slice_get_below watched number w at)) in
    literal_within count clauses number clause other within there (other_stands clause w l other (each number clause w there at) both).0

-- the other watched literal is unit in the clause where all others are false and it isn't
pub unit_if_open : (held clause : List Lit) (other : Lit) → is_held clause other ≡ true → All (λ m. (m ≡ other → ⊥) → is_false held m ≡ true) clause → is_false held other ≡ false → IsUnit held clause other
unit_if_open held clause other stands others kept =
    record { stands = Contains-from_held clause other stands; not_false = kept; others_false = others }

-- the clause number at a place of a watch list
pub number_at : (watchers : List Watcher) (place : ℕ) (w : Watcher) → slice_get watchers place ≡ Some w → slice_get (numbers_in watchers) place ≡ Some w.number
number_at [] place w at = cc
number_at (v ∷ vs) zero w at = ap (λ (x : Watcher). Some x.number) (some_same v w at)
number_at (v ∷ vs) (suc k) w at = number_at vs k w at

-- each blocker stands in its clause, if the new blockers do
pub EachBlocked-kept : (clauses : List (List Lit)) (old new : Watches) (IsNew : Watcher → Type 0) → EachBlocked clauses old → KeepsOnly old new IsNew → ((w : Watcher) (clause : List Lit) → IsNew w → slice_get clauses w.number ≡ Some clause → is_held clause w.blocker ≡ true) → EachBlocked clauses new
EachBlocked-kept clauses old new IsNew blocked only stands l w clause inside at =
    elim (only l w inside) [
      | inl before ↦ blocked l w clause before at
      | inr is ↦ stands w clause is at
    ]

pub EachBlocked-one : (clauses : List (List Lit)) (old new : Watches) (number : ℕ) (blocker : Lit) → EachBlocked clauses old → KeepsOnly old new (λ w. (w.number ≡ number) × (w.blocker ≡ blocker)) → ((clause : List Lit) → slice_get clauses number ≡ Some clause → is_held clause blocker ≡ true) → EachBlocked clauses new
EachBlocked-one clauses old new number blocker blocked only stands =
    EachBlocked-kept clauses old new (λ w. (w.number ≡ number) × (w.blocker ≡ blocker)) blocked only
    (λ w clause is at. ap (is_held clause) is.1 ∙ stands clause (sym (ap (slice_get clauses) is.0) ∙ at))

-- a watcher with another blocker: each blocker stands in its clause, as the new one does
pub EachBlocked-at : (clauses : List (List Lit)) (old new : Watches) (l : Lit) (place number : ℕ) (blocker : Lit) → EachBlocked clauses old → slice_get (numbers_of old l) place ≡ Some number → KeepsOnly old new (λ w. (slice_get (numbers_of old l) place ≡ Some w.number) × (w.blocker ≡ blocker)) → ((clause : List Lit) → slice_get clauses number ≡ Some clause → is_held clause blocker ≡ true) → EachBlocked clauses new
EachBlocked-at clauses old new l place number blocker blocked here only stands =
    EachBlocked-kept clauses old new (λ w. (slice_get (numbers_of old l) place ≡ Some w.number) × (w.blocker ≡ blocker)) blocked only
    (λ w clause is at. ap (is_held clause) is.1 ∙ stands clause (ap (slice_get clauses) (some_same number w.number (sym here ∙ is.0)) ∙ at))

stands_at : {X : Type 0} (xs : List X) (place : ℕ) (x : X) → slice_get xs place ≡ Some x → Contains xs x
stands_at xs place x at = (place, slice_get_below xs place x at, get_or_from_slice_get xs place x x at)

-- some literal of the clause of this number is held
abbrev pub NamesSatisfied : List (List Lit) → List Lit → ℕ → Type 0
NamesSatisfied clauses held number = (clause : List Lit) → slice_get clauses number ≡ Some clause → IsSatisfied held clause

pub NamesSatisfied-by : (clauses : List (List Lit)) (held : List Lit) (number : ℕ) (l : Lit) → NamesHeld clauses held number l → NamesSatisfied clauses held number
NamesSatisfied-by clauses held number l is clause at = let (stands, held_now) = is clause at in (l, stands, held_now)

-- a clause with a blocker that is held is satisfied
pub satisfied_by_blocker : (clauses : List (List Lit)) (watches : Watches) (held : List Lit) (l : Lit) (place : ℕ) (w : Watcher) → EachBlocked clauses watches → slice_get (watchers_of watches l) place ≡ Some w → is_held held w.blocker ≡ true → NamesSatisfied clauses held w.number
satisfied_by_blocker clauses watches held l place w blocked here is clause at =
    (w.blocker, blocked l w clause (stands_at (watchers_of watches l) place w here) at, is)

pub blocker_within : (count : ℕ) (clauses : List (List Lit)) (watches : Watches) (entries : List Entry) (l : Lit) (place : ℕ) (w : Watcher) → VariablesWithin count clauses → IsWatching clauses watches entries → slice_get (watchers_of watches l) place ≡ Some w → IsVariable count w.blocker.variable
blocker_within count clauses watches entries l place w within watching here =
    let known : w.number < length (watched_in watches.arena) = watching.listed.known l place w.number (number_at (watchers_of watches l) place w here) in
    let (clause, there) = element_at clauses w.number (omega (arith, known, watching.count)) in
    literal_within count clauses w.number clause w.blocker within there (watching.blocked l w clause (stands_at (watchers_of watches l) place w here) there)
