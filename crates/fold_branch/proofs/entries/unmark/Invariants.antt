use Rattle.fold_branch.proofs.Common.{ℕ, drop, IsMarked, HasEntry}
use Rattle.fold_branch.proofs.entries.unmark.Given as goal

-- the marked blocks are among those of the entries from the index on
abbrev pub invariant-loop-entry : goal.invariant-loop-entry
invariant-loop-entry l = (b : ℕ) → IsMarked l.marks b → HasEntry (drop l.entry-index l.entries) b
