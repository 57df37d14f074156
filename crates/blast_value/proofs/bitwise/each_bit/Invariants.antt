use Rattle.blast_value.proofs.Common.{◌≡◌, Bool, List, length, take, All, Adds, number_of, bitwise}
use Rattle.blast_value.proofs.bitwise.each_bit.Given as goal

abbrev pub invariant-loop-i : goal.invariant-loop-i
invariant-loop-i g l =
    let m = g.C.State in
    Adds m l.initial.c l.c l.i × All (m.has_literal l.c) l.word × (length l.word ≡ l.i) × ((inputs : List Bool) → m.admits l.initial.c inputs → number_of (m.value l.c inputs) l.word ≡ bitwise l.op (number_of (m.value l.initial.c inputs) (take l.i l.a)) (number_of (m.value l.initial.c inputs) (take l.i l.b)))
