use Rattle.circuits.proofs.Chain.{Chained}
use Rattle.circuits.proofs.adder.add_with_carry.Given as goal

abbrev pub invariant-loop-i : goal.invariant-loop-i
invariant-loop-i g l =
    let m = g.C.State in
    Chained m l.initial.c l.c l.a l.b l.fn.first l.i l.bits l.carry
