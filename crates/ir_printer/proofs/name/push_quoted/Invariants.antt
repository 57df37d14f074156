use Rattle.ir_printer.proofs.Common.{◌≡◌, ◌++◌, ◌∷◌, [], take, flat_map, escaped}
use Rattle.ir_printer.proofs.name.push_quoted.Given as goal

abbrev pub invariant-loop-byte : goal.invariant-loop-byte
invariant-loop-byte l = l.out.items ≡ (l.fn.out.items ++ 34 ∷ []) ++ flat_map escaped (take l.byte-index l.name)
