-- The names of registers and blocks, in the order of the text: the parameters, and then block by block the block and
-- its results (LangRef, "Identifiers").
use Rattle.std.specs.Prelude.{ℕ, ◌+◌, ◌∷◌, List, ◌++◌, length, map, take, slice_get, Option, option_map, option_and_then}
use Rattle.std.specs.List.{flat_map}
use Rattle.ir_core.specs.declared.function.Function.{Function}
use Rattle.ir_core.specs.declared.function.Block.{Block}
use Rattle.ir_core.specs.declared.operand.Register.{Register}
use Rattle.ir_core.specs.declared.operand.Register.TheVariants as registers

-- a name, if there is one
abbrev pub Name : Type 0
Name = Option (List ℕ)

-- a block's own name, and those of its results
abbrev pub block_names : Block → List Name
block_names block = block.name ∷ map (λ i. i.name) block.insts

-- all names of a function in text order: those of the parameters, then block by block
abbrev pub names_of : Function → List Name
names_of f = map (λ p. p.name) f.parameters ++ flat_map block_names f.blocks

-- the index in that list of the name of block b, and of the name of a register
abbrev pub block_place : Function → ℕ → ℕ
block_place f b = length f.parameters + length (flat_map block_names (take b f.blocks))

abbrev pub place_of : Function → Register → ℕ
place_of f (registers.Parameter k) = k
place_of f (registers.Result b k) = block_place f b + 1 + k

-- the width of what a register holds, if the function has it
abbrev pub width_of : Function → Register → Option ℕ
width_of f (registers.Parameter k) = option_map (λ p. p.width) (slice_get f.parameters k)
width_of f (registers.Result b k) = option_and_then (λ block. option_map (λ i. i.width) (slice_get block.insts k)) (slice_get f.blocks b)
