use Rattle.proof_text.proofs.Common.{◌≤◌, length, drop, Lacks}
use Rattle.proof_text.proofs.head.last_bracket.Given as goal

abbrev pub invariant-loop-place : goal.invariant-loop-place
invariant-loop-place l = record { within : l.place ≤ length l.line; lacks : Lacks 91 (drop l.place l.line) }

abbrev pub decreases-loop-place : goal.decreases-loop-place
decreases-loop-place l = l.place
