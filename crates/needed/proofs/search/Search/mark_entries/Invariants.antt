use Rattle.needed.proofs.Common.{take, Marked}
use Rattle.needed.proofs.MarkLemmas.{values_of}
use Rattle.needed.proofs.search.Search.mark_entries.Given as goal

-- the instructions that define the operands of the entries before the index are marked
abbrev pub invariant-loop-entry : goal.invariant-loop-entry
invariant-loop-entry l = Marked l.numbers.firsts.items (values_of (take l.entry-index l.entries)) l.initial.self l.self
