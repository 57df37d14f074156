use Rattle.ir_meaning.proofs.Common.{◌≡◌, drop, breaks_noundef}
use Rattle.ir_meaning.proofs.noundef.breaks_noundef.Given as goal

abbrev pub invariant-loop-k : goal.invariant-loop-k
invariant-loop-k l = breaks_noundef (drop l.k l.parameters) (drop l.k l.args) ≡ breaks_noundef l.parameters l.args
