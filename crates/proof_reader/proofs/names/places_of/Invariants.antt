-- the map has the places of the rules so far
use Rattle.proof_reader.proofs.Common.{take, ArePlaces}
use Rattle.proof_reader.proofs.names.places_of.Given as goal

abbrev pub invariant-loop-place : goal.invariant-loop-place
invariant-loop-place l = ArePlaces (take l.place l.rules) l.places
