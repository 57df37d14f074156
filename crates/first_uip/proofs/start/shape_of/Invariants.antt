use Rattle.first_uip.proofs.Common.{◌≡◌, true, take, All, MatchOption, is_held}
use Rattle.first_uip.proofs.start.shape_of.Given as goal

abbrev pub invariant-loop-literal : goal.invariant-loop-literal
invariant-loop-literal l =
    MatchOption l.first (l.literal-index ≡ 0) (λ x. (is_held (take l.literal-index l.clause) x ≡ true) × All (λ m. m ≡ x) (take l.literal-index l.clause))
