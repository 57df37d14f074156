-- the entries so far are parsed and checked, and these tokens are left
use Rattle.ir_reader.proofs.Common.{ℕ, List, length, seen, RawEntry, HasLeft, IsReadingOf}
use Rattle.ir_reader.proofs.reader.last_entries.Given as goal

abbrev pub invariant-loop-left : goal.invariant-loop-left
invariant-loop-left l = (text : List ℕ) (front : List RawEntry) → HasLeft text front (seen l.fn.tokens) → (now : List RawEntry) × HasLeft text now (seen l.left) × (IsReadingOf front l.fn.reading → IsReadingOf now l.reading)

abbrev pub decreases-loop-left : goal.decreases-loop-left
decreases-loop-left l = length l.left
