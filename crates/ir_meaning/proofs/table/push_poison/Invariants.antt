use Rattle.ir_meaning.proofs.Common.{◌≡◌, ◌++◌, replicate, Poison}
use Rattle.ir_meaning.proofs.table.push_poison.Given as goal

abbrev pub invariant-loop : goal.invariant-loop
invariant-loop l = l.values.items ≡ l.initial.values.items ++ replicate l.counter Poison
