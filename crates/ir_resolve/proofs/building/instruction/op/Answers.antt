use Rattle.ir_resolve.proofs.Common.{sym, subst, AllByRecursion, typed, IsUnknownValue, known_by, CallsIn}
use Rattle.ir_resolve.proofs.Zips.{each_seen}
use Rattle.ir_resolve.proofs.building.instruction.op.Goals as goal

pub entries-requires-clause-values : goal.entries-requires-clause-values
entries-requires-clause-values c =
    let known = known_by c.args.names.now in
    let reads = rw c.in-Phi.is at c.requires.reads in
    subst (λ is. AllByRecursion (λ i. ¬ IsUnknownValue (CallsIn known) i.value.value) is) (sym c.as_slice.ensures)
    (each_seen (λ i. typed c.in-Phi.field-0 i.value) (λ t. ¬ IsUnknownValue (CallsIn known) t.operand.value) c.in-Phi.incoming reads)
