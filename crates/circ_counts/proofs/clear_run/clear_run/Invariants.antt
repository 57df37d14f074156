use Rattle.circ_counts.proofs.Common.{◌≡◌, Bool, not, List, take, length, filter, All, list_all, prefix_len, Adds}
use Rattle.circ_counts.proofs.clear_run.clear_run.Given as goal

abbrev pub invariant-loop-bit : goal.invariant-loop-bit
invariant-loop-bit g l =
    let m = g.C.State in
    Adds m l.initial.c l.c l.bit-index × m.has_literal l.c l.clear × All (m.has_literal l.c) l.run × (length l.run ≡ l.bit-index)
    × ((inputs : List Bool) → m.admits l.initial.c inputs → m.value l.c inputs l.clear ≡ list_all (λ x. not (m.value l.initial.c inputs x)) (take l.bit-index l.a))
    × ((inputs : List Bool) → m.admits l.initial.c inputs → length (filter (m.value l.c inputs) l.run) ≡ prefix_len (λ x. not (m.value l.initial.c inputs x)) (take l.bit-index l.a))
