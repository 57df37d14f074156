use Rattle.verdict.proofs.Common.{◌≡◌, ◌-◌, ◌^◌, ◌<◌, drop, length, number}
use Rattle.verdict.proofs.reading.number_read.Given as goal

abbrev pub invariant-loop-place : goal.invariant-loop-place
invariant-loop-place l = record { value : l.number ≡ number (drop l.place l.bits); fits : l.number < 2 ^ (length l.bits - l.place) }
