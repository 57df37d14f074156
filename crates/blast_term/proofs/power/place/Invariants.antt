use Rattle.blast_term.proofs.Common.{◌≡◌, ◌*◌, Bool, List, take, length, All, Adds, number_of}
use Rattle.blast_term.proofs.Powers.{Scanned}
use Rattle.blast_term.proofs.power.place.Given as goal

abbrev pub invariant-loop-i : goal.invariant-loop-i
invariant-loop-i g l =
    let m = g.C.State in
    Adds m l.initial.c l.c (8 * l.i)
    × m.has_literal l.c l.none × m.has_literal l.c l.one × All (m.has_literal l.c) l.bits × (length l.bits ≡ l.width)
    × ((inputs : List Bool) → m.admits l.initial.c inputs →
    Scanned l.i (number_of (m.value l.initial.c inputs) (take l.i l.word)) (number_of (m.value l.c inputs) l.bits) (m.value l.c inputs l.none) (m.value l.c inputs l.one))
