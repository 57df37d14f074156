-- The definitions of a function in text order: its parameters, blocks and results, each with the identifier that is
-- written, if any.
use Rattle.std.specs.Prelude.{ℕ, List, ◌∷◌, ◌++◌, map, Option, Some}
use Rattle.std.specs.List.{flat_map, enumerate_from}
use Rattle.ir_core.specs.declared.operand.Register.TheVariants as registers
use Rattle.ir_tokens.specs.declared.raw.RawFunction.{RawFunction}
use Rattle.ir_tokens.specs.declared.raw.RawParameter.{RawParameter}
use Rattle.ir_tokens.specs.declared.raw.RawBlock.{RawBlock}
use Rattle.ir_tokens.specs.declared.raw.RawInst.{RawInst}
use Rattle.ir_tokens.specs.declared.raw.RawIdentifier.{RawIdentifier}
use Rattle.ir_resolve.specs.declared.names.definition.Entity.{Entity}
use Rattle.ir_resolve.specs.declared.names.definition.Entity.TheVariants as entities
use Rattle.ir_resolve.specs.FaultKinds.{result_width}

abbrev pub Defined : Type 0
Defined = Option RawIdentifier × Entity

-- the definitions of parameter k, of result j of block b, and of block b with its results
abbrev pub parameter_defined : ℕ × RawParameter → Defined
parameter_defined p = (p.1.name, entities.Register (registers.Parameter p.0) p.1.width)

abbrev pub result_defined : ℕ → ℕ × RawInst → Defined
result_defined b i = (Some i.1.result, entities.Register (registers.Result b i.0) (result_width i.1.op))

abbrev pub results_defined : ℕ → List RawInst → List Defined
results_defined b insts = map (result_defined b) (enumerate_from 0 insts)

abbrev pub block_defined : ℕ × RawBlock → List Defined
block_defined b = (b.1.label, entities.Block b.0) ∷ results_defined b.0 b.1.insts

abbrev pub parameters_defined : List RawParameter → List Defined
parameters_defined parameters = map parameter_defined (enumerate_from 0 parameters)

abbrev pub blocks_defined : List RawBlock → List Defined
blocks_defined blocks = flat_map block_defined (enumerate_from 0 blocks)

abbrev pub definitions_of : RawFunction → List Defined
definitions_of raw = parameters_defined raw.parameters ++ blocks_defined raw.blocks
