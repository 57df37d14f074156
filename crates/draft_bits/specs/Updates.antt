-- How what is kept of a draft's results is set right after an edit.
use Rattle.std.specs.Prelude.{◌≡◌, ℕ, ◌<◌, ◌≤◌, List, length, All, Some, slice_get, slice_set}
use Rattle.circuits.specs.declared.known_bit.KnownBit.{KnownBit}
use Rattle.ir_core.specs.Checks.{IsInst, IsPhi}
use Rattle.ir_core.specs.Reads.{end_of}
use Rattle.ir_core.specs.declared.function.Function.{Function}
use Rattle.ir_core.specs.declared.instruction.Inst.{Inst}
use Rattle.ir_core.specs.declared.operand.Register.TheVariants as registers
use Rattle.known_bits.specs.declared.facts.Facts.{Facts}
use Rattle.draft.specs.declared.draft.Draft.{Draft}
use Rattle.draft_bits.specs.DraftBits.{HasFewBits, HasSameBits, IsRight, StandsReached, facts_at, results_at}
use Rattle.draft_bits.specs.declared.bits.DraftBits.{DraftBits}
use Rattle.places.specs.Sets.{Has, Rows}
use Rattle.places.specs.declared.place.Place.{Place}
use Rattle.readers.specs.Readers.{IsReader}

-- there is an entry for each instruction of the block
abbrev pub HasEntries : Draft → DraftBits → ℕ → Type 0
HasEntries d bits b = end_of d.arena b ≤ length (results_at bits b)

-- Rows of entries may have got longer, by words of at most 64 bits. All entries that there were stay.
pub record AreGrown (old new : DraftBits) : Type 0 where
  pub as_many : length new.blocks.items ≡ length old.blocks.items
  pub blocks : (b : ℕ) → (facts_at new b).block ≡ (facts_at old b).block
  pub few : HasFewBits old → HasFewBits new
  pub longer : (b : ℕ) → length (results_at old b) ≤ length (results_at new b)
  pub kept : (b n : ℕ) → n < length (results_at old b) → HasSameBits old new b n

-- what is known of block b is replaced
pub record IsReplaced (b : ℕ) (was now : Facts) (old new : List Facts) : Type 0 where
  pub there : slice_get old b ≡ Some was
  pub is : new ≡ slice_set old b now

-- the row of one block got so long
pub record IsLonger (count : ℕ) (was now : Facts) : Type 0 where
  pub block : now.block ≡ was.block
  pub few : All (λ word. length word ≤ 64) was.results → All (λ word. length word ≤ 64) now.results
  pub longer : length was.results ≤ length now.results
  pub kept : (n : ℕ) → n < length was.results → slice_get now.results n ≡ slice_get was.results n
  pub room : count ≤ length now.results

-- one entry of a block is written
pub record IsPut (number : ℕ) (word : List KnownBit) (was now : Facts) : Type 0 where
  pub block : now.block ≡ was.block
  pub results : now.results ≡ slice_set was.results number word

-- instruction n of block b reads the result at a place of the block, and is no phi: of a phi nothing is known
pub record Takes (f : Function) (p : Place) (b n : ℕ) : Type 0 where
  pub block : b ≡ p.block
  pub no_phi : (inst : Inst) → IsInst f b n inst → ¬ IsPhi inst.op
  pub reads : IsReader f (registers.Result p.block p.number) (record { block = b; number = n })

-- The places that wait stand in reached blocks. All other instructions there are right, and all have entries.
pub record IsUpdating (d : Draft) (waiting : Rows) (bits : DraftBits) : Type 0 where
  pub as_many : length bits.blocks.items ≡ length d.arena.blocks
  pub blocks : (b : ℕ) → b < length d.arena.blocks → (facts_at bits b).block ≡ b
  pub stand : (b n : ℕ) → Has waiting b n → StandsReached d b n
  pub right : (b n : ℕ) (inst : Inst) → StandsReached d b n → ¬ Has waiting b n → IsInst d.arena b n inst → IsRight b (results_at bits b) n inst
  pub room : (b n : ℕ) → StandsReached d b n → n < length (results_at bits b)
