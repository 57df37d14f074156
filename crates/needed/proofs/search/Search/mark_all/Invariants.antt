use Rattle.needed.proofs.Common.{take, Marked}
use Rattle.needed.proofs.search.Search.mark_all.Given as goal

-- the instructions that define the operands before the index are marked
abbrev pub invariant-loop-operand : goal.invariant-loop-operand
invariant-loop-operand l = Marked l.numbers.firsts.items (take l.operand-index l.operands) l.initial.self l.self
