use Rattle.first_uip.proofs.Common.{IsPlaced}
use Rattle.first_uip.proofs.blocks.note_places.Given as goal

abbrev pub invariant-loop-place : goal.invariant-loop-place
invariant-loop-place l = IsPlaced l.places l.trail.entries.items l.place
