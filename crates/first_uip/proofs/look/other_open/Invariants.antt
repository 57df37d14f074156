use Rattle.first_uip.proofs.Common.{◌≡◌, true, take, All, ◌≢◌, is_false, literals}
use Rattle.first_uip.proofs.look.other_open.Given as goal

abbrev pub invariant-loop-literal : goal.invariant-loop-literal
invariant-loop-literal l = All (λ m. m ≢ l.other → is_false (literals l.trail.entries.items) m ≡ true) (take l.literal-index l.clause)
