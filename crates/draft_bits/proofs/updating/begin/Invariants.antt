use Rattle.draft_bits.proofs.Beginning.{HasBegun}
use Rattle.draft_bits.proofs.updating.begin.Given as goal

-- the places before this one wait, and their rows have grown
abbrev pub invariant-loop-place : goal.invariant-loop-place
invariant-loop-place l = HasBegun l.draft l.touched l.place-index l.fn.bits l.bits l.waiting
