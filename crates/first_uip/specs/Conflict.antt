-- What a conflict rests on, and what is learned of it: the clause of a unique implication point (GRASP). A variable has
-- a role in the conflict: it is seen where the conflict rests on it, and then it is resolved or kept.
use Rattle.std.specs.Prelude.{◌≡◌, ℕ, ◌+◌, ◌<◌, ◌≤◌, ◌⊎◌, Bool, true, false, List, Option, Some, None, filter, length, take, slice_get, slice_index_or}
use Rattle.clauses.specs.Literal.{Lit}
use Rattle.clauses.specs.Propagation.{is_held, is_false}
use Rattle.depth_first.specs.declared.trail.Entry.{Entry}
use Rattle.depth_first.specs.declared.trail.Cause.TheVariants.{Reason}
use Rattle.depth_first.specs.TrailEntries.{literals, is_decision, IsOpen}
use Rattle.first_uip.specs.declared.roles.Role.{Role}
use Rattle.first_uip.specs.declared.roles.Role.TheVariants.{Unseen, Resolved, Kept}

-- the role of a variable
abbrev pub role_of : List Role → ℕ → Role
role_of roles n = slice_index_or roles n Unseen

abbrev pub is_seen : Role → Bool
is_seen Unseen = false
is_seen Resolved = true
is_seen Kept = true

abbrev pub is_resolved : Role → Bool
is_resolved Unseen = false
is_resolved Resolved = true
is_resolved Kept = false

abbrev pub is_kept : Role → Bool
is_kept Unseen = false
is_kept Resolved = false
is_kept Kept = true

-- the role of an entry's variable
abbrev pub part_of : List Role → Entry → Role
part_of roles e = role_of roles e.literal.variable

-- each variable of the clause is seen
abbrev pub AllSeen : List Role → List Lit → Type 0
AllSeen roles clause = (l : Lit) → is_held clause l ≡ true → is_seen (role_of roles l.variable) ≡ true

-- the variables of the clause are seen beside those that were, and no others; the kept ones are the same
pub record Sees (clause : List Lit) (old new : List Role) : Type 0 where
  pub all : AllSeen new clause
  pub still : (n : ℕ) → is_seen (role_of old n) ≡ true → is_seen (role_of new n) ≡ true
  pub same_kept : (n : ℕ) → is_kept (role_of new n) ≡ is_kept (role_of old n)
  pub only : (n : ℕ) → is_seen (role_of new n) ≡ true → (is_seen (role_of old n) ≡ true) ⊎ ((l : Lit) × (is_held clause l ≡ true) × (l.variable ≡ n))

-- the variables of the clause of this number are seen
abbrev pub NamesSeen : List (List Lit) → List Role → ℕ → Type 0
NamesSeen clauses roles number = (clause : List Lit) → slice_get clauses number ≡ Some clause → AllSeen roles clause

-- What the conflict rests on is seen: the variables of the clause that is false, and, for each entry from a place on
-- that is seen and not kept, those of its reason, which it has.
pub record IsResolution (clauses : List (List Lit)) (entries : List Entry) (conflict from : ℕ) (roles : List Role) : Type 0 where
  pub falsified : NamesSeen clauses roles conflict
  pub reasons_too : (place : ℕ) (e : Entry) → from ≤ place → slice_get entries place ≡ Some e → is_seen (part_of roles e) ≡ true → is_kept (part_of roles e) ≡ false → (number : ℕ) × (e.cause ≡ Reason number) × NamesSeen clauses roles number

-- From one place and the old roles to another and the new ones: what any conflict rests on is still seen.
abbrev pub Resolves : List (List Lit) → List Entry → ℕ → List Role → ℕ → List Role → Type 0
Resolves clauses entries from old to new =
    (conflict : ℕ) → IsResolution clauses entries conflict from old → IsResolution clauses entries conflict to new

-- the entry at a place is seen; no entry from a place up to another is seen, or is kept
abbrev pub SeenAt : List Entry → List Role → ℕ → Type 0
SeenAt entries roles place = (e : Entry) × (slice_get entries place ≡ Some e) × (is_seen (part_of roles e) ≡ true)

abbrev pub NoneSeen : List Entry → List Role → ℕ → ℕ → Type 0
NoneSeen entries roles from to =
    (place : ℕ) (e : Entry) → from ≤ place → place < to → slice_get entries place ≡ Some e → is_seen (part_of roles e) ≡ false

abbrev pub NoneKept : List Entry → List Role → ℕ → ℕ → Type 0
NoneKept entries roles from to =
    (place : ℕ) (e : Entry) → from ≤ place → place < to → slice_get entries place ≡ Some e → is_kept (part_of roles e) ≡ false

-- the entries from a place on that are kept are the same by both
abbrev pub SameKeptFrom : List Entry → List Role → List Role → ℕ → Type 0
SameKeptFrom entries old new from =
    (place : ℕ) (e : Entry) → from ≤ place → slice_get entries place ≡ Some e → is_kept (part_of new e) ≡ is_kept (part_of old e)

-- the entry at a place was decided; no entry from a place up to another was
abbrev pub DecidedAt : List Entry → ℕ → Type 0
DecidedAt entries place = (e : Entry) × (slice_get entries place ≡ Some e) × (is_decision e.cause ≡ true)

abbrev pub NoneDecided : List Entry → ℕ → ℕ → Type 0
NoneDecided entries from to =
    (place : ℕ) (e : Entry) → from ≤ place → place < to → slice_get entries place ≡ Some e → is_decision e.cause ≡ false

-- the last level begins at this place: the entry there is the last decision
pub record IsLastLevel (entries : List Entry) (start : ℕ) : Type 0 where
  pub decided : DecidedAt entries start
  pub later : NoneDecided entries (start + 1) (length entries)

-- the entries that are kept, and those that are resolved
abbrev pub kept_entries : List Role → List Entry → List Entry
kept_entries roles entries = filter (λ (e : Entry). is_kept (part_of roles e)) entries

abbrev pub resolved_entries : List Role → List Entry → List Entry
resolved_entries roles entries = filter (λ (e : Entry). is_resolved (part_of roles e)) entries

-- The roles in the end: what the conflict rests on is resolved, but for the implication point, the one entry that is
-- kept of the level that begins at the last decision, and entries before that level, which may be kept.
pub record IsAnalysis (clauses : List (List Lit)) (entries : List Entry) (roles : List Role) (conflict start point : ℕ) : Type 0 where
  pub resolution : IsResolution clauses entries conflict 0 roles
  pub entry : Entry
  pub at : slice_get entries point ≡ Some entry
  pub first : start ≤ point
  pub kept : is_kept (part_of roles entry) ≡ true
  pub only : (k : ℕ) (f : Entry) → start ≤ k → slice_get entries k ≡ Some f → is_kept (part_of roles f) ≡ true → k ≡ point

-- an entry before this place that is kept, with no decision between the two; or none, where no entry before this place
-- is kept or was decided
abbrev pub IsBelow : List Entry → List Role → ℕ → Option ℕ → Type 0
IsBelow entries roles place None = NoneKept entries roles 0 place × NoneDecided entries 0 place
IsBelow entries roles place (Some below) =
    (below < place) × NoneDecided entries (below + 1) place
    × ((e : Entry) × (slice_get entries below ≡ Some e) × (is_kept (part_of roles e) ≡ true))

-- Where to jump back to (backjumping): the earliest decision behind all kept entries that stand before the last level.
pub record IsJump (entries : List Entry) (roles : List Role) (start place : ℕ) (below : Option ℕ) : Type 0 where
  pub within : place ≤ start
  pub decided : DecidedAt entries place
  pub none_kept : NoneKept entries roles place start
  pub kept_below : IsBelow entries roles place below

-- Where the entries from the decision at this place on are popped, all literals of the clause but this one are false,
-- and this one has no value: the clause is asserting.
pub record IsAsserting (entries : List Entry) (place : ℕ) (clause : List Lit) (u : Lit) : Type 0 where
  pub decided : DecidedAt entries place
  pub stands : is_held clause u ≡ true
  pub unset : IsOpen (literals (take place entries)) u.variable
  pub others : (m : Lit) → is_held clause m ≡ true → ((m ≡ u) → ⊥) → is_false (literals (take place entries)) m ≡ true

-- another literal of the clause to watch: it isn't false before any decision that stands before that place; or none,
-- where the clause has no other literal and no decision stands before that place
abbrev pub IsOther : List Entry → ℕ → List Lit → Lit → Option Lit → Type 0
IsOther entries place clause u None = ((m : Lit) → is_held clause m ≡ true → m ≡ u) × NoneDecided entries 0 place
IsOther entries place clause u (Some other) =
    (is_held clause other ≡ true) × ((u ≡ other) → ⊥)
    × ((k : ℕ) → k < place → DecidedAt entries k → is_false (literals (take k entries)) other ≡ false)
