-- none of the operands so far is the register
use Rattle.readers.proofs.Common.{◌≡◌, ℕ, ◌<◌, get_or, operands_at}
use Rattle.ir_core.specs.declared.operand.Operand.TheVariants as operands
use Rattle.readers.proofs.uses.reads.Given as goal

abbrev pub invariant-loop-index : goal.invariant-loop-index
invariant-loop-index l = (k : ℕ) → k < l.index → get_or (operands_at l.arena l.place) k operands.Poison ≡ operands.Register l.register → ⊥
