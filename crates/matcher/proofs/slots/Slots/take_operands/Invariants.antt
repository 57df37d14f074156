-- the slots of the operands so far are filled with what a match has
use Rattle.matcher.proofs.Common.{◌≡◌, ℕ, ◌<◌, Some, slice_get, operands_of, AreAsMany, Keeps, KnowsOperand, OperandsMatch, Binding}
use Rattle.rule_core.specs.declared.rule.Operand.{Operand}
use Rattle.matcher.proofs.slots.Slots.take_operands.Given as goal

abbrev pub invariant-loop-index : goal.invariant-loop-index
invariant-loop-index l = record {
  sizes : AreAsMany l.initial.self l.self;
  knows : (m : Binding) → OperandsMatch l.f m l.block l.place l.op → Keeps m l.initial.self l.self;
  operands : (m : Binding) (i : ℕ) (o : Operand) → OperandsMatch l.f m l.block l.place l.op → i < l.index → slice_get (operands_of l.op) i ≡ Some o → KnowsOperand l.self m o;
}
