use Rattle.needed.proofs.Common.{map, moved_operand, marks_by}
use Rattle.needed.proofs.KeptLemmas.{Written}
use Rattle.needed.proofs.moving.moved_entries.Given as goal

-- the registers in the entries before the index are renamed
abbrev pub invariant-loop-entry : goal.invariant-loop-entry
invariant-loop-entry l = Written (λ i entries. map (λ e. (moved_operand (marks_by l.kept.firsts.items l.kept.marks.items) e.0, e.1)) entries) l.fn.entries l.entry-index l.entry-items
