-- of the places so far those that read the register are kept
use Rattle.readers.proofs.Common.{operands_at, Contains}
use Rattle.ir_core.specs.declared.operand.Operand.TheVariants as operands
use Rattle.readers.proofs.Listing.{Kept}
use Rattle.readers.proofs.uses.readers_among.Given as goal

abbrev pub invariant-loop-index : goal.invariant-loop-index
invariant-loop-index l = Kept (λ p. Contains (operands_at l.arena p) (operands.Register l.register)) l.fn.places l.index l.kept l.places.items
