use Rattle.ir_resolve.proofs.Common.{[], map, take, Adds}
use Rattle.ir_resolve.proofs.uses.Uses.add_cases.Given as goal

abbrev pub invariant-loop-case : goal.invariant-loop-case
invariant-loop-case l = Adds l.initial.self l.self [] (map (λ c. c.target) (take l.case-index l.cases))
