-- Watched literals: which clauses have to be looked at when a literal becomes false (Chaff). Each literal has a watch
-- list, of watchers: a clause's number and a blocker.
use Rattle.std.specs.Prelude.{Contains, ◌≡◌, ℕ, ◌*◌, ◌<◌, ◌++◌, ◌⊎◌, true, false, List, [], ◌∷◌, Some, length, take, slice_get, slice_index_or}
use Rattle.clauses.specs.Literal.{Lit, code_of, is_same}
use Rattle.clauses.specs.Propagation.{is_held, is_false}
use Rattle.depth_first.specs.declared.trail.Entry.{Entry}
use Rattle.depth_first.specs.TrailEntries.{literals, is_decision}
use Rattle.depth_first.specs.Propagated.{StandsFrom}
use Rattle.depth_first.specs.DepthFirst.{IsSatisfied}
use Rattle.first_uip.specs.declared.watches.Watches.{Watches}
use Rattle.first_uip.specs.declared.watchers.Watcher.{Watcher}
use Rattle.first_uip.specs.declared.arena.Watched.{Watched}
use Rattle.first_uip.specs.declared.arena.Watched.TheVariants.{Alone, Two}
use Rattle.first_uip.specs.Clauses.{clauses_in, watched_in, numbers_in}

-- the literals that a clause watches
abbrev pub watched_literals : Watched → List Lit
watched_literals Alone = []
watched_literals (Two first second) = first ∷ second ∷ []

-- the watch list of a literal
abbrev pub watchers_of : Watches → Lit → List Watcher
watchers_of watches l = slice_index_or watches.lists.items (code_of l) []

-- the clause numbers of the watch list of a literal
abbrev pub numbers_of : Watches → Lit → List ℕ
numbers_of watches l = numbers_in (watchers_of watches l)

-- there is a watch list for each literal of a variable below n
abbrev pub CoversBelow : ℕ → Watches → Type 0
CoversBelow n watches = length watches.lists.items ≡ 2 * n

-- the watch lists after a number is added to that of one literal
pub record AddsNumber (old new : Watches) (l : Lit) (number : ℕ) : Type 0 where
  pub here : numbers_of new l ≡ numbers_of old l ++ number ∷ []
  pub others : (m : Lit) → is_same m l ≡ false → numbers_of new m ≡ numbers_of old m

-- the watch lists after a number is added to those of these literals
pub record AddsNumbers (old new : Watches) (added : List Lit) (number : ℕ) : Type 0 where
  pub kept : (l : Lit) (place n : ℕ) → slice_get (numbers_of old l) place ≡ Some n → slice_get (numbers_of new l) place ≡ Some n
  pub listed : (l : Lit) → is_held added l ≡ true → StandsFrom (numbers_of new l) 0 number
  pub only : (l : Lit) (place n : ℕ) → slice_get (numbers_of new l) place ≡ Some n → (slice_get (numbers_of old l) place ≡ Some n) ⊎ (n ≡ number)

-- the watch lists have only watchers that they had, and new ones
abbrev pub KeepsOnly : Watches → Watches → (Watcher → Type 0) → Type 0
KeepsOnly old new IsNew = (l : Lit) (w : Watcher) → Contains (watchers_of new l) w → Contains (watchers_of old l) w ⊎ IsNew w

-- each blocker is a literal of its watcher's clause
abbrev pub EachBlocked : List (List Lit) → Watches → Type 0
EachBlocked clauses watches =
    (l : Lit) (w : Watcher) (clause : List Lit) → Contains (watchers_of watches l) w → slice_get clauses w.number ≡ Some clause → is_held clause w.blocker ≡ true

-- Each clause is in the watch lists of the literals that it watches, and the watch lists have no other numbers than
-- those of clauses.
pub record IsListed (watches : Watches) : Type 0 where
  pub each : (number : ℕ) (w : Watched) (l : Lit) → slice_get (watched_in watches.arena) number ≡ Some w → is_held (watched_literals w) l ≡ true → StandsFrom (numbers_of watches l) 0 number
  pub known : (l : Lit) (place n : ℕ) → slice_get (numbers_of watches l) place ≡ Some n → n < length (watched_in watches.arena)

-- a clause watches two different literals of its own, or none
abbrev pub IsWatch : List Lit → Watched → Type 0
IsWatch clause Alone = Unit {0}
IsWatch clause (Two first second) =
    (is_held clause first ≡ true) × (is_held clause second ≡ true) × ((first ≡ second) → ⊥)

abbrev pub EachIsWatch : List (List Lit) → List Watched → Type 0
EachIsWatch clauses watched =
    (number : ℕ) (clause : List Lit) (w : Watched) → slice_get clauses number ≡ Some clause → slice_get watched number ≡ Some w → IsWatch clause w

-- The clause is guarded: where one of its watched literals is false by what was seen, some literal of it is held; and
-- where it watches none, some literal of it is held.
abbrev pub IsGuarded : List Lit → List Lit → List Lit → Watched → Type 0
IsGuarded seen held clause Alone = IsSatisfied held clause
IsGuarded seen held clause (Two first second) =
    (is_false seen first ≡ true → IsSatisfied held clause) × (is_false seen second ≡ true → IsSatisfied held clause)

abbrev pub EachGuarded : List (List Lit) → List Watched → List Lit → List Lit → Type 0
EachGuarded clauses watched seen held =
    (number : ℕ) (clause : List Lit) (w : Watched) → slice_get clauses number ≡ Some clause → slice_get watched number ≡ Some w → IsGuarded seen held clause w

-- each clause is guarded in the state before each decision
abbrev pub EachLevelGuarded : List (List Lit) → List Watched → List Entry → Type 0
EachLevelGuarded clauses watched entries =
    (place : ℕ) (e : Entry) → slice_get entries place ≡ Some e → is_decision e.cause ≡ true →
    EachGuarded clauses watched (literals (take place entries)) (literals (take place entries))

-- The watches of the clauses of an arena: each clause has its watched literals, is in their watch lists, and is guarded
-- before each decision. So each level before the last is closed under unit propagation.
pub record IsWatching (clauses : List (List Lit)) (watches : Watches) (entries : List Entry) : Type 0 where
  pub same : clauses_in watches.arena ≡ clauses
  pub count : length (watched_in watches.arena) ≡ length clauses
  pub each : EachIsWatch clauses (watched_in watches.arena)
  pub listed : IsListed watches
  pub blocked : EachBlocked clauses watches
  pub levels : EachLevelGuarded clauses (watched_in watches.arena) entries

-- so, and each clause is guarded by the entries before the head: these were propagated
pub record IsWatchingUpTo (clauses : List (List Lit)) (watches : Watches) (entries : List Entry) (head : ℕ) : Type 0 where
  pub watching : IsWatching clauses watches entries
  pub guarded : EachGuarded clauses (watched_in watches.arena) (literals (take head entries)) (literals entries)
