use Rattle.rup_checker.proofs.Common.{List, take, Lit, IsSoFar, Represents}
use Rattle.rup_checker.proofs.open_literals.open_literals_of.Given as goal

-- what was found among the literals before this one: none that isn't false, or one, which is unit in them
abbrev pub invariant-loop-literal : goal.invariant-loop-literal
invariant-loop-literal l =
    (held : List Lit) → Represents l.table held → IsSoFar held (take l.literal-index l.clause) l.found
