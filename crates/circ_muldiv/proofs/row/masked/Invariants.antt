use Rattle.circ_muldiv.proofs.Common.{◌≡◌, ◌*◌, Bool, List, take, length, All, Adds, bit, number_of}
use Rattle.circ_muldiv.proofs.row.masked.Given as goal

abbrev pub invariant-loop-bit : goal.invariant-loop-bit
invariant-loop-bit g l =
    let m = g.C.State in
    Adds m l.initial.c l.c l.bit-index × All (m.has_literal l.c) l.masked × (length l.masked ≡ l.bit-index) × ((inputs : List Bool) → m.admits l.initial.c inputs → number_of (m.value l.c inputs) l.masked ≡ bit (m.value l.initial.c inputs l.digit) * number_of (m.value l.initial.c inputs) (take l.bit-index l.word))
