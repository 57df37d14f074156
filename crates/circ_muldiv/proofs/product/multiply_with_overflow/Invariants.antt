use Rattle.circ_muldiv.proofs.Rows.{Multiplied}
use Rattle.circ_muldiv.proofs.product.multiply_with_overflow.Given as goal

abbrev pub invariant-loop-i : goal.invariant-loop-i
invariant-loop-i g l =
    let m = g.C.State in
    Multiplied m l.fn.c l.c l.a l.b l.bits l.overflow l.past l.i
