use Rattle.circ_counts.proofs.Common.{◌≡◌, ◌*◌, Bool, List, take, length, filter, All, Adds, adder_gates, number_of}
use Rattle.circ_counts.proofs.ones.counted.Given as goal

abbrev pub invariant-loop-bit : goal.invariant-loop-bit
invariant-loop-bit g l =
    let m = g.C.State in
    Adds m l.initial.c l.c (adder_gates (length l.zeros) * l.bit-index) × All (m.has_literal l.c) l.count × (length l.count ≡ length l.zeros)
    × ((inputs : List Bool) → m.admits l.initial.c inputs → number_of (m.value l.c inputs) l.count ≡ length (filter (m.value l.initial.c inputs) (take l.bit-index l.a)))
