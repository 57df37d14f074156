use Rattle.substitution.proofs.Common.{stands_for, substituted_operand}
use Rattle.substitution.proofs.Mapping.{Mapped}
use Rattle.substitution.proofs.operands.substituted_entries.Given as goal

-- the operands of the entries before the index are substituted
abbrev pub invariant-loop-entry : goal.invariant-loop-entry
invariant-loop-entry l = Mapped (λ e. (substituted_operand (stands_for l.fn.rewrite) e.0, e.1)) l.fn.entries l.entry-index l.entry-items
