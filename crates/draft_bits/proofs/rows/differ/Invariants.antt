-- the bits so far are the same
use Rattle.draft_bits.proofs.Common.{◌≡◌, take}
use Rattle.draft_bits.proofs.rows.differ.Given as goal

abbrev pub invariant-loop-place : goal.invariant-loop-place
invariant-loop-place l = take l.place l.one ≡ take l.place l.other
