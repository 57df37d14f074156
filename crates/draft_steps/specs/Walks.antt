-- Searches along def-use chains, from instructions to their users in the same block, or across blocks.
use Rattle.std.specs.Prelude.{◌≡◌, ◌⊎◌, ℕ, Bool, ◌++◌, List, [], length, All, Contains}
use Rattle.draft.specs.declared.draft.Draft.{Draft}
use Rattle.places.specs.declared.place.Place.{Place}
use Rattle.draft_steps.specs.declared.walk.Walk.{Walk}
use Rattle.ir_core.specs.Blocks.{HasInst}
use Rattle.ir_core.specs.declared.operand.Register.TheVariants as registers
use Rattle.bindings.specs.Match.{IsInScope}
use Rattle.draft.specs.Drafts.{Reaches, Stands}
use Rattle.readers.specs.Readers.{IsReader}
use Rattle.places.specs.Sets.{Has}
use Rattle.draft.specs.Whole.{IsWhole}

-- the search found instruction n of block b
abbrev pub Came : Walk → ℕ → ℕ → Type 0
Came w b n = Contains w.found.items (record { block = b; number = n })

-- It found nothing yet, over so many blocks.
pub record IsIdle (blocks : ℕ) (w : Walk) : Type 0 where
  pub blocks_are : length w.reached ≡ blocks
  pub unmarked : (b n : ℕ) → ¬ Has w.reached b n
  pub none : w.found.items ≡ []

-- It found instructions of the draft. What it marked is among them.
pub record IsWalk (d : Draft) (w : Walk) : Type 0 where
  pub blocks : length w.reached ≡ length d.arena.blocks
  pub insts : All (λ p. HasInst d.arena p.block p.number) w.found.items
  pub marked : (b n : ℕ) → Has w.reached b n → Came w b n

-- The new search found what the old one did, and perhaps more.
pub record IsFurther (old new : Walk) : Type 0 where
  pub more : List Place
  pub is : new.found.items ≡ old.found.items ++ more

-- The same draft, but that use lists may be others.
pub record IsSameDraft (old new : Draft) : Type 0 where
  pub whole : IsWhole new
  pub arena : new.arena ≡ old.arena
  pub orders : new.orders.items ≡ old.orders.items
  pub stand : new.stand.items ≡ old.stand.items
  pub dead_candidates : new.dead_candidates.items ≡ old.dead_candidates.items

-- it found the users of an instruction that stand, in its block or across blocks
abbrev pub ReadersCame : Bool → Draft → Walk → Place → Type 0
ReadersCame across d w p = (b n : ℕ) → IsInScope across p.block p.number b n → Stands d b n → IsReader d.arena (registers.Result p.block p.number) (record { block = b; number = n }) → Came w b n

-- what the new search found and the old one didn't is such an instruction
abbrev pub CameOnlyTo : (ℕ → ℕ → Type 0) → Walk → Walk → Type 0
CameOnlyTo IsSuch old new = (b n : ℕ) → Came new b n → Came old b n ⊎ IsSuch b n

-- instruction n of block b stands, and is at this place, or at one of these places
abbrev pub StandsAt : Draft → Place → ℕ → ℕ → Type 0
StandsAt d p b n = Stands d b n × (p ≡ record { block = b; number = n })

abbrev pub StandsAtOneOf : Draft → List Place → ℕ → ℕ → Type 0
StandsAtOneOf d places b n = Stands d b n × Contains places (record { block = b; number = n })

-- instruction n of block b stands, and is a user of the one at this place, in its block or across blocks, or at one of
-- these places
abbrev pub ReadsHere : Bool → Draft → Place → ℕ → ℕ → Type 0
ReadsHere across d p b n = IsInScope across p.block p.number b n × Stands d b n × IsReader d.arena (registers.Result p.block p.number) (record { block = b; number = n })

abbrev pub ReadsOneOf : Bool → Draft → List Place → ℕ → ℕ → Type 0
ReadsOneOf across d places b n = (p : Place) × Contains places p × ReadsHere across d p b n

-- instruction n of block b stands, and reads from one of these places through a chain of at most so many operands
abbrev pub ReachesOneOf : Bool → Draft → ℕ → List Place → ℕ → ℕ → Type 0
ReachesOneOf across d depth places b n = (p : Place) × Contains places p × Stands d b n × Reaches across d depth b n p.block p.number
