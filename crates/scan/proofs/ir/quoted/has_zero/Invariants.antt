use Rattle.scan.proofs.Common.{◌≡◌, eqb, length, list_any, unquoted}
use Rattle.scan.proofs.ir.quoted.has_zero.Given as goal

abbrev pub invariant-loop-byte : goal.invariant-loop-byte
invariant-loop-byte l = list_any (λ b. eqb b 0) (unquoted l.rest) ≡ list_any (λ b. eqb b 0) (unquoted l.inner)

abbrev pub decreases-loop-byte : goal.decreases-loop-byte
decreases-loop-byte l = length l.rest
