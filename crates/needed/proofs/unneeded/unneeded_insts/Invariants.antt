use Rattle.needed.proofs.Common.{◌≡◌, ◌<◌, ◌↔◌, ℕ, false, Contains, HasInst, marks_by}
use Rattle.needed.proofs.unneeded.unneeded_insts.Given as goal

-- the unmarked instructions of the first blocks were appended
abbrev pub invariant-loop-index : goal.invariant-loop-index
invariant-loop-index l = (b k : ℕ) → Contains l.places.items (b, k) ↔ ((b < l.index) × HasInst l.f b k × (marks_by l.numbers.firsts.items l.marks.items b k ≡ false))
