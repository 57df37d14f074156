use Rattle.circuits.proofs.Common.{◌≡◌, Bool, List, not, map, length, take, All, known_not}
use Rattle.circuits.proofs.word.inverted.Given as goal

abbrev pub invariant-loop-bit : goal.invariant-loop-bit
invariant-loop-bit g l =
    let m = g.C.State in
    All (m.has_literal l.c) l.word × (length l.word ≡ l.bit-index) × ((inputs : List Bool) → m.admits l.c inputs → map (m.value l.c inputs) l.word ≡ map not (map (m.value l.c inputs) (take l.bit-index l.a))) × ((inputs : List Bool) → map (m.known l.c inputs) l.word ≡ map known_not (map (m.known l.c inputs) (take l.bit-index l.a)))
