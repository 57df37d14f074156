-- the copies so far are those of the first parameters
use Rattle.std.proofs.Common.{◌≡◌, take}
use Rattle.ir_core.proofs.copy.copy_parameters.Given as goal

abbrev pub invariant-loop-parameter : goal.invariant-loop-parameter
invariant-loop-parameter l = l.copies ≡ take l.parameter-index l.parameter-items
