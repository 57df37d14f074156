use Rattle.circuits.proofs.Common.{◌≡◌, ◌*◌, nat_lt, Bool, List, take, Adds, number_of}
use Rattle.circuits.proofs.compare.less_unsigned.Given as goal

abbrev pub invariant-loop-i : goal.invariant-loop-i
invariant-loop-i g l =
    let m = g.C.State in
    Adds m l.initial.c l.c (2 * l.i) × m.has_literal l.c l.less × ((inputs : List Bool) → m.admits l.initial.c inputs → m.value l.c inputs l.less ≡ nat_lt (number_of (m.value l.initial.c inputs) (take l.i l.a)) (number_of (m.value l.initial.c inputs) (take l.i l.b)))
