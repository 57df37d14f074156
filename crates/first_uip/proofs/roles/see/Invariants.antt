use Rattle.first_uip.proofs.Common.{take, Sees, EachMarked}
use Rattle.first_uip.proofs.roles.see.Given as goal

abbrev pub invariant-loop-literal : goal.invariant-loop-literal
invariant-loop-literal l =
    record {
      sees : Sees (take l.literal-index l.clause) l.initial.roles l.roles;
      marked : EachMarked l.blocks l.places l.roles;
    }
