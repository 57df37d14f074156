use Rattle.blast_value.proofs.Common.{◌≡◌, ◌+◌, ◌*◌, ◌^◌, Bool, List, length, All, number_of}
use Rattle.blast_value.proofs.known.constant.Given as goal

abbrev pub invariant-loop-i : goal.invariant-loop-i
invariant-loop-i g l =
    let m = g.C.State in
    All (m.has_literal l.c) l.word × (length l.word ≡ l._i) × ((inputs : List Bool) → m.admits l.c inputs → number_of (m.value l.c inputs) l.word + 2 ^ l._i * l.rest ≡ l.fn.number)
