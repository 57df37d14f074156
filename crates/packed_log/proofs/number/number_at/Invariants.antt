use Rattle.packed_log.proofs.Common.{◌≡◌, drop, first_number}
use Rattle.packed_log.proofs.number.number_at.Given as goal

-- the number so far is what the bytes from this place on are read as
abbrev pub invariant-loop-place : goal.invariant-loop-place
invariant-loop-place l = l.number ≡ first_number (drop l.place l.bytes)
