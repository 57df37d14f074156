use Rattle.circ_muldiv.proofs.Quotients.{Stepped}
use Rattle.circ_muldiv.proofs.division.divide_unsigned.Given as goal

abbrev pub invariant-loop-i : goal.invariant-loop-i
invariant-loop-i g l =
    let m = g.C.State in
    Stepped m l.fn.c l.c l.fn.a l.fn.b l.quotient.items l.remainder l.i
