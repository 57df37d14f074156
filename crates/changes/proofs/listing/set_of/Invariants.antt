-- the set has the first places
use Rattle.changes.proofs.Common.{◌≡◌, ◌↔◌, ℕ, length, take, Contains, Has}
use Rattle.changes.proofs.listing.set_of.Given as goal

abbrev pub invariant-loop-place : goal.invariant-loop-place
invariant-loop-place l = (length l.marks ≡ l.blocks) × ((b k : ℕ) → Has l.marks b k ↔ Contains (take l.place-index l.places) (b, k))
