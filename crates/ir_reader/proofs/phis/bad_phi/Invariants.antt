-- the line of the first such phi in the blocks so far
use Rattle.ir_reader.proofs.Common.{ℕ, IsFirst, Before, BadPhiHere}
use Rattle.ir_reader.proofs.phis.bad_phi.Given as goal

abbrev pub invariant-loop-place : goal.invariant-loop-place
invariant-loop-place l = IsFirst (Before (λ b line. (k : ℕ) × BadPhiHere l.raw l.f b k line) l.place) l.found
