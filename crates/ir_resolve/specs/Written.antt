-- What the names and numbers of a function as written refer to (LangRef, "Identifiers"). Parameters, blocks and results
-- stand in one order, that of the text: the parameters, and then block by block the block and its results.
use Rattle.std.specs.Prelude.{◌≡◌, ℕ, ◌+◌, ◌<◌, List, ◌∷◌, ◌++◌, length, map, take, Option, None, Some, slice_get}
use Rattle.std.specs.List.{flat_map}
use Rattle.ir_tokens.specs.declared.called.Identifier.{Identifier}
use Rattle.ir_tokens.specs.declared.called.Identifier.TheVariants.{Named, Numbered}
use Rattle.ir_core.specs.Names.{Name}
use Rattle.ir_resolve.specs.Identifiers.{identifiers_from}
use Rattle.ir_core.specs.declared.operand.Register.{Register}
use Rattle.ir_core.specs.declared.operand.Register.TheVariants as registers
use Rattle.ir_tokens.specs.declared.raw.RawFunction.{RawFunction}
use Rattle.ir_tokens.specs.declared.raw.RawBlock.{RawBlock}
use Rattle.ir_tokens.specs.declared.raw.RawInst.{RawInst}
use Rattle.ir_tokens.specs.declared.raw.RawIdentifier.{RawIdentifier}

-- what an identifier may refer to
pub data Thing : Type 0 where
  Value : (register : Register) → Thing
  Block : (number : ℕ) → Thing

-- the identifiers that are written for a block and for its results
abbrev pub written_in : RawBlock → List (Option RawIdentifier)
written_in block = block.label ∷ map (λ i. Some i.result) block.insts

-- the identifiers that are written for all things in order; none for an unnamed parameter, or a first block without a
-- label
abbrev pub written_names : RawFunction → List (Option RawIdentifier)
written_names raw = map (λ p. p.name) raw.parameters ++ flat_map written_in raw.blocks

-- the name that is given so, if it is no number
abbrev pub name_in : Identifier → Name
name_in (Named text) = Some text
name_in (Numbered n) = None

abbrev pub given : Option RawIdentifier → Name
given None = None
given (Some w) = name_in w.identifier

-- the identifiers of things for which this is written, where those without a name take one series of numbers
abbrev pub called_in : List (Option RawIdentifier) → List Identifier
called_in written = identifiers_from 0 (map given written)

-- the identifiers of all things
abbrev pub identifiers_of : RawFunction → List Identifier
identifiers_of raw = called_in (written_names raw)

-- instruction j of block d is this one
abbrev pub IsWrittenInst : RawFunction → ℕ → ℕ → RawInst → Type 0
IsWrittenInst raw d j inst = (block : RawBlock) × (slice_get raw.blocks d ≡ Some block) × (slice_get block.insts j ≡ Some inst)

-- the function has the thing
abbrev pub HasThing : RawFunction → Thing → Type 0
HasThing raw (Value (registers.Parameter k)) = k < length raw.parameters
HasThing raw (Value (registers.Result d j)) = (inst : RawInst) × IsWrittenInst raw d j inst
HasThing raw (Block b) = b < length raw.blocks

-- the index of a thing in the order
abbrev pub block_place : RawFunction → ℕ → ℕ
block_place raw b = length raw.parameters + length (flat_map written_in (take b raw.blocks))

abbrev pub place_of : RawFunction → Thing → ℕ
place_of raw (Value (registers.Parameter k)) = k
place_of raw (Value (registers.Result d j)) = block_place raw d + 1 + j
place_of raw (Block b) = block_place raw b

-- the identifier refers to the thing
abbrev pub Calls : RawFunction → Identifier → Thing → Type 0
Calls raw x thing = HasThing raw thing × (slice_get (identifiers_of raw) (place_of raw thing) ≡ Some x)
