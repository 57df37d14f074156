use Rattle.circuits.proofs.Common.{◌≡◌, ◌*◌, Bool, List, map, take, length, All, Adds, moved, number_of}
use Rattle.circuits.proofs.shift.by_stages.Given as goal

abbrev pub invariant-loop-i : goal.invariant-loop-i
invariant-loop-i g l =
    let m = g.C.State in
    Adds m l.initial.c l.c (length l.a * l.i) × All (m.has_literal l.c) l.word × (length l.word ≡ length l.a) × ((inputs : List Bool) → m.admits l.initial.c inputs → map (m.value l.c inputs) l.word ≡ moved l.direction (m.value l.initial.c inputs l.fill) (number_of (m.value l.initial.c inputs) (take l.i l.amount)) (map (m.value l.initial.c inputs) l.a))
