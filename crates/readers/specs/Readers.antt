-- What reads a register, and use lists.
use Rattle.std.specs.Prelude.{◌≡◌, ℕ, ◌<◌, ◌↔◌, ◌==◌, ◌⊎◌, if◌then◌else◌, List, [], length, Contains, slice_index_or}
use Rattle.ir_core.specs.Blocks.{IsBlock}
use Rattle.ir_core.specs.Checks.{IsKnown}
use Rattle.ir_core.specs.Reads.{end_of}
use Rattle.ir_core.specs.declared.function.Block.{Block}
use Rattle.ir_core.specs.declared.function.Function.{Function}
use Rattle.ir_core.specs.declared.operand.Operand.{Operand}
use Rattle.ir_core.specs.declared.operand.Operand.TheVariants as operands
use Rattle.ir_core.specs.declared.operand.Register.{Register}
use Rattle.ir_core.specs.declared.operand.Register.TheVariants as registers
use Rattle.needed.specs.Needed.{ReadsRegister}
use Rattle.places.specs.Orders.{none}
use Rattle.places.specs.declared.place.Place.{Place}
use Rattle.readers.specs.declared.uses.Readers.{Readers}

-- an instruction of the arena by its number, or the terminator of one of its blocks
abbrev pub IsPlaceIn : Function → Place → Type 0
IsPlaceIn f p = (block : Block) × IsBlock f p.block block × ((p.number < length block.insts) ⊎ (p.number ≡ none))

-- its index in the arena: the terminator comes after all instructions
abbrev pub arena_place : Function → Place → ℕ
arena_place f p = if p.number == none then end_of f p.block else p.number

-- what is at the place reads the register
abbrev pub IsReader : Function → Register → Place → Type 0
IsReader f register p = ReadsRegister f p.block (arena_place f p) register

-- the use list of a register
abbrev pub listed_for : Readers → Register → List Place
listed_for readers (registers.Parameter p) = slice_index_or readers.parameters p []
listed_for readers (registers.Result b n) = slice_index_or (slice_index_or readers.results.items b []) n []

abbrev pub HasList : Readers → Register → Type 0
HasList readers (registers.Parameter p) = p < length readers.parameters
HasList readers (registers.Result b n) = n < length (slice_index_or readers.results.items b [])

-- Use lists for the registers of a function. The list of each has every place that reads the register, and may have
-- places that don't.
pub record AreReadersOf (f : Function) (readers : Readers) : Type 0 where
  pub there : (register : Register) → IsKnown f (operands.Register register) → HasList readers register
  pub complete : (register : Register) (p : Place) → IsPlaceIn f p → IsReader f register p → Contains (listed_for readers register) p
  pub places : (register : Register) (p : Place) → Contains (listed_for readers register) p → IsPlaceIn f p

-- the new list has the places of the old one and this place
abbrev pub IsListedAmong : Place → List Place → List Place → Type 0
IsListedAmong place old new = (p : Place) → Contains new p ↔ (Contains old p ⊎ (p ≡ place))

-- a register's list has one more place, and all other lists stay
pub record IsListed (register : Register) (place : Place) (old new : Readers) : Type 0 where
  pub there : (r : Register) → HasList old r → HasList new r
  pub is : IsListedAmong place (listed_for old register) (listed_for new register)
  pub others : (r : Register) → ¬ (r ≡ register) → listed_for new r ≡ listed_for old r

-- a register's list has these places, and all other lists stay
pub record IsListSetTo (register : Register) (places : List Place) (old new : Readers) : Type 0 where
  pub there : (r : Register) → HasList old r ↔ HasList new r
  pub is : listed_for new register ≡ places
  pub others : (r : Register) → ¬ (r ≡ register) → listed_for new r ≡ listed_for old r

-- there is a list for each register among these operands
abbrev pub HaveLists : Readers → List Operand → Type 0
HaveLists readers reads = (r : Register) → Contains reads (operands.Register r) → HasList readers r

-- the lists of the registers among these operands have the place too, and nothing else is added to any
pub record AreListed (place : Place) (reads : List Operand) (old new : Readers) : Type 0 where
  pub there : (r : Register) → HasList old r → HasList new r
  pub listed : (r : Register) (p : Place) → Contains (listed_for new r) p ↔ (Contains (listed_for old r) p ⊎ (Contains reads (operands.Register r) × (p ≡ place)))
