use Rattle.ir_resolve.proofs.Common.{◌≡◌, ◌++◌, map, take, seen_definition, blocks_defined}
use Rattle.ir_resolve.proofs.names.definition.add_blocks.Given as goal

abbrev pub invariant-loop-index : goal.invariant-loop-index
invariant-loop-index l = map seen_definition l.definitions.items ≡ map seen_definition l.initial.definitions.items ++ blocks_defined (take l.index l.blocks)
