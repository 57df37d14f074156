use Rattle.circuits.proofs.Common.{◌≡◌, Bool, List, take, list_any, Adds}
use Rattle.circuits.proofs.disjunction.any.Given as goal

abbrev pub invariant-loop-bit : goal.invariant-loop-bit
invariant-loop-bit g l =
    let m = g.C.State in
    Adds m l.initial.c l.c l.bit-index × m.has_literal l.c l.some × ((inputs : List Bool) → m.admits l.initial.c inputs → m.value l.c inputs l.some ≡ list_any (m.value l.initial.c inputs) (take l.bit-index l.a))
