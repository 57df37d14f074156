-- the operands of the entries before the index are substituted
use Rattle.readers.proofs.Common.{substituted_operand, Mapped}
use Rattle.readers.proofs.substituting.substituted_entries.Given as goal

abbrev pub invariant-loop-entry : goal.invariant-loop-entry
invariant-loop-entry g l = Mapped (λ e. (substituted_operand (g.S.Substitute.to l.by) e.0, e.1)) l.fn.entries l.entry-index l.entry-items
