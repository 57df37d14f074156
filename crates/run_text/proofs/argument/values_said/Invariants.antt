use Rattle.run_text.proofs.Common.{◌≡◌, map, take, Some, values_said}
use Rattle.run_text.proofs.ArgumentLemmas.{texts_of}
use Rattle.run_text.proofs.argument.values_said.Given as goal

abbrev pub invariant-loop-place : goal.invariant-loop-place
invariant-loop-place l = map (λ u. Some u) l.values ≡ take l.place (values_said l.parameters (texts_of l.words))
