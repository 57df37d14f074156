-- the list has the first of them
use Rattle.changes.proofs.Common.{◌≡◌, ◌+◌, ◌<◌, ◌≤◌, AreAscending}
use Rattle.changes.proofs.listing.run.Given as goal

abbrev pub invariant-loop-index : goal.invariant-loop-index
invariant-loop-index l = AreAscending (λ b k. (b ≡ l.block) × (l.first ≤ k) × (k < l.first + l.index)) l.places
