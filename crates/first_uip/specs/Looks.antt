-- Looking at a clause of which a watched literal became false.
use Rattle.std.specs.Prelude.{◌≡◌, ℕ, ◌⊎◌, true, false, List, Some, slice_get, slice_set}
use Rattle.clauses.specs.Literal.{Lit}
use Rattle.clauses.specs.Propagation.{NamesFalse, is_held, is_false}
use Rattle.depth_first.specs.declared.trail.Entry.{Entry}
use Rattle.depth_first.specs.TrailEntries.{literals}
use Rattle.first_uip.specs.declared.arena.Watched.{Watched}
use Rattle.first_uip.specs.declared.arena.Watched.TheVariants.{Two}
use Rattle.first_uip.specs.declared.look.Look.{Look}
use Rattle.first_uip.specs.declared.look.Look.TheVariants.{Stays, Leaves, Falsified}
use Rattle.first_uip.specs.Watching.{watched_literals}

-- the clause watches these two literals, in either order
abbrev pub WatchesBoth : Watched → Lit → Lit → Type 0
WatchesBoth w l other = (w ≡ Two l other) ⊎ (w ≡ Two other l)

-- the clause of this number watches, in place of this literal, another literal of it that isn't false
pub record MovesWatch (clauses : List (List Lit)) (held : List Lit) (old new : List Watched) (number : ℕ) (l : Lit) : Type 0 where
  pub watch : Watched
  pub moved : Lit
  pub other : Lit
  pub before : slice_get old number ≡ Some watch
  pub both : WatchesBoth watch l other
  pub after : new ≡ slice_set old number (Two moved other)
  pub stands : (clause : List Lit) → slice_get clauses number ≡ Some clause → is_held clause moved ≡ true
  pub differs : (moved ≡ other) → ⊥
  pub not_false : is_false held moved ≡ false

-- this literal stands in the clause of this number, and is held
abbrev pub NamesHeld : List (List Lit) → List Lit → ℕ → Lit → Type 0
NamesHeld clauses held number l =
    (clause : List Lit) → slice_get clauses number ≡ Some clause → (is_held clause l ≡ true) × (is_held held l ≡ true)

-- what looking at the clause of this number came to, where this literal, which it watched, became false
abbrev pub IsLook : List (List Lit) → List Watched → List Watched → List Entry → List Entry → ℕ → Lit → Look → Type 0
IsLook clauses old new before after number l (Stays other) = (new ≡ old) × NamesHeld clauses (literals after) number other
IsLook clauses old new before after number l Leaves =
    (after ≡ before) × (((new ≡ old) × ((w : Watched) → slice_get old number ≡ Some w → is_held (watched_literals w) l ≡ false)) ⊎ MovesWatch clauses (literals before) old new number l)
IsLook clauses old new before after number l Falsified = (new ≡ old) × NamesFalse clauses (literals after) number
