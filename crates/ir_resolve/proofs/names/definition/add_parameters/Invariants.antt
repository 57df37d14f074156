use Rattle.ir_resolve.proofs.Common.{◌≡◌, ◌++◌, map, take, seen_definition, parameters_defined}
use Rattle.ir_resolve.proofs.names.definition.add_parameters.Given as goal

abbrev pub invariant-loop-index : goal.invariant-loop-index
invariant-loop-index l = map seen_definition l.definitions.items ≡ map seen_definition l.initial.definitions.items ++ parameters_defined (take l.index l.parameters)
