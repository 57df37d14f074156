use Rattle.needed.proofs.Common.{◌≡◌, ◌<◌, ◌⊎◌, ◌↔◌, ℕ, false, Contains, marks_by}
use Rattle.needed.proofs.unneeded.push_unmarked.Given as goal

-- the unmarked ones among the block's first instructions were appended
abbrev pub invariant-loop-place : goal.invariant-loop-place
invariant-loop-place l = (b k : ℕ) → Contains l.places.items (b, k) ↔ (Contains l.initial.places.items (b, k) ⊎ ((b ≡ l.block) × (k < l.place) × (marks_by l.numbers.firsts.items l.marks b k ≡ false)))
