use Rattle.run_text.proofs.NamedLemmas.{NoneBefore}
use Rattle.run_text.proofs.named.function_named.Given as goal

abbrev pub invariant-loop-entry : goal.invariant-loop-entry
invariant-loop-entry l = NoneBefore l.entry-items l.name l.entry-index
