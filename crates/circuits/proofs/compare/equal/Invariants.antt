use Rattle.circuits.proofs.Common.{◌≡◌, ◌*◌, ◌==◌, Bool, List, take, Adds, number_of}
use Rattle.circuits.proofs.compare.equal.Given as goal

abbrev pub invariant-loop-i : goal.invariant-loop-i
invariant-loop-i g l =
    let m = g.C.State in
    Adds m l.initial.c l.c (2 * l.i) × m.has_literal l.c l.same × ((inputs : List Bool) → m.admits l.initial.c inputs → m.value l.c inputs l.same ≡ (number_of (m.value l.initial.c inputs) (take l.i l.a) == number_of (m.value l.initial.c inputs) (take l.i l.b)))
