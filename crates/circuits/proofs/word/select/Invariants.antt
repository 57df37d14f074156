use Rattle.circuits.proofs.Common.{◌≡◌, Bool, List, map, take, length, if◌then◌else◌, All, Adds}
use Rattle.circuits.proofs.word.select.Given as goal

abbrev pub invariant-loop-i : goal.invariant-loop-i
invariant-loop-i g l =
    let m = g.C.State in
    Adds m l.initial.c l.c l.i × All (m.has_literal l.c) l.word × (length l.word ≡ l.i) × ((inputs : List Bool) → m.admits l.initial.c inputs → map (m.value l.c inputs) l.word ≡ take l.i (if m.value l.initial.c inputs l.condition then map (m.value l.initial.c inputs) l.yes else map (m.value l.initial.c inputs) l.no))
