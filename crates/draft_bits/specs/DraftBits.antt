-- What is known of the results of a draft, by the numbers of its arena.
use Rattle.std.specs.Prelude.{◌≡◌, ℕ, ◌<◌, ◌≤◌, List, [], length, All, IfSome, Some, Contains, slice_get, slice_index_or}
use Rattle.circuits.specs.declared.known_bit.KnownBit.{KnownBit}
use Rattle.ir_core.specs.Checks.{IsInst, IsPhi}
use Rattle.ir_core.specs.Reads.{Read, reads_of}
use Rattle.ir_core.specs.Walks.{IsReached}
use Rattle.ir_core.specs.declared.function.Function.{Function}
use Rattle.ir_core.specs.declared.instruction.Inst.{Inst}
use Rattle.ir_core.specs.declared.operand.Operand.TheVariants as operands
use Rattle.ir_core.specs.declared.operand.Register.TheVariants as registers
use Rattle.known_bits.specs.KnownBits.{insts_of, known_operand, known_result, known_results}
use Rattle.known_bits.specs.declared.facts.Facts.{Facts}
use Rattle.draft.specs.Drafts.{Stands}
use Rattle.draft.specs.declared.draft.Draft.{Draft}
use Rattle.draft_bits.specs.declared.bits.DraftBits.{DraftBits}
use Rattle.places.specs.Sets.{Has}
use Rattle.places.specs.Worklist.{WorklistView}
use Rattle.places.specs.declared.place.Place.{Place}

-- what is known of the results of block b
abbrev pub facts_at : DraftBits → ℕ → Facts
facts_at bits b = slice_index_or bits.blocks.items b bits.none

abbrev pub results_at : DraftBits → ℕ → List (List KnownBit)
results_at bits b = (facts_at bits b).results

-- no word has more than 64 bits
abbrev pub HasFewBits : DraftBits → Type 0
HasFewBits bits = (b : ℕ) → All (λ word. length word ≤ 64) (results_at bits b)

-- of result n of block b is known what the table says of its instruction, by what is known of the others
abbrev pub IsRight : ℕ → List (List KnownBit) → ℕ → Inst → Type 0
IsRight b results n inst = slice_get results n ≡ Some (known_result (known_operand b results) inst.width inst.op)

-- the instruction with this number stands in a reached block
abbrev pub StandsReached : Draft → ℕ → ℕ → Type 0
StandsReached d b n = IsReached d.arena b × Stands d b n

-- nothing is on the worklist, which is over so many blocks
pub record IsIdle (blocks : ℕ) (waiting : WorklistView) : Type 0 where
  pub as_many : length waiting.marks ≡ blocks
  pub unmarked : (b n : ℕ) → ¬ Has waiting.marks b n
  pub none : waiting.heap ≡ []

-- so it is of the worklist that is kept for updates
abbrev pub KeepsNoneWaiting : DraftBits → Type 0
KeepsNoneWaiting bits = IfSome bits.waiting (IsIdle (length bits.blocks.items))

-- There is something known of each block, and it is right at each instruction that stands in a reached one.
pub record AreBitsOf (d : Draft) (bits : DraftBits) : Type 0 where
  pub as_many : length bits.blocks.items ≡ length d.arena.blocks
  pub blocks : (b : ℕ) → b < length d.arena.blocks → (facts_at bits b).block ≡ b
  pub right : (b n : ℕ) (inst : Inst) → StandsReached d b n → IsInst d.arena b n inst → IsRight b (results_at bits b) n inst
  pub idle : KeepsNoneWaiting bits

-- Something is known of each block from before an edit, which touched these places: at all other instructions that
-- stand it is still right, and these read no results of new instructions.
pub record AreBitsBefore (d : Draft) (touched : List Place) (bits : DraftBits) : Type 0 where
  pub as_many : length bits.blocks.items ≡ length d.arena.blocks
  pub blocks : (b : ℕ) → b < length d.arena.blocks → (facts_at bits b).block ≡ b
  pub right : (b n : ℕ) (inst : Inst) → StandsReached d b n → ¬ Contains touched (record { block = b; number = n }) → IsInst d.arena b n inst
      → IsRight b (results_at bits b) n inst
  pub reads : (b n i m : ℕ) (inst : Inst) (r : Read) → StandsReached d b n → ¬ Contains touched (record { block = b; number = n }) → IsInst d.arena b n inst
      → ¬ IsPhi inst.op → slice_get (reads_of d.arena b n inst.width inst.op) i ≡ Some r → r.operand ≡ operands.Register (registers.Result b m)
      → m < length (results_at bits b)
  pub idle : KeepsNoneWaiting bits

-- the same is known of result n of block b
abbrev pub HasSameBits : DraftBits → DraftBits → ℕ → ℕ → Type 0
HasSameBits old new b n = slice_get (results_at new b) n ≡ slice_get (results_at old b) n

-- what is known of the results of a block of a function, if it is reached
pub record AreFactsIn (f : Function) (b : ℕ) (facts : Facts) : Type 0 where
  pub block : facts.block ≡ b
  pub few : All (λ word. length word ≤ 64) facts.results
  pub results : IsReached f b → facts.results ≡ known_results b (insts_of f b)
