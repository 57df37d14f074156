-- the slots so far, all empty
use Rattle.matcher.proofs.Common.{◌≡◌, vec_len}
use Rattle.matcher.proofs.slots.unfilled.Given as goal

abbrev pub invariant-loop-k : goal.invariant-loop-k
invariant-loop-k g l = vec_len l.slots ≡ l._k
