use Rattle.ir_resolve.proofs.Common.{map, take, typed, Adds}
use Rattle.ir_resolve.proofs.uses.Uses.add_incoming.Given as goal

abbrev pub invariant-loop-entry : goal.invariant-loop-entry
invariant-loop-entry l = Adds l.initial.self l.self (map (λ i. typed l.width i.value) (take l.entry-index l.incoming)) (map (λ i. i.block) (take l.entry-index l.incoming))
