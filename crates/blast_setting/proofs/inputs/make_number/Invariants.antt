use Rattle.blast_setting.proofs.Making.{Made}
use Rattle.blast_setting.proofs.inputs.make_number.Given as goal

abbrev pub invariant-loop : goal.invariant-loop
invariant-loop g l =
    let m = g.C.State in
    Made m l.initial.c l.c l.bits l.counter
