use Rattle.matcher.proofs.Common.{◌≡◌, ℕ, inl, inr, refl, subst, Some, true, false, arith, slice_get, cases_eq, operands_of, at_most_three}
use Rattle.matcher.proofs.Knowing.{as_many_along, keeps_along, keeps_operand, each_operand}
use Rattle.matcher.proofs.slots.Slots.take_operands.Goals as goal

pub returns-then-not-take_operand_at-clause-knows : goal.returns-then-not-take_operand_at-clause-knows
returns-then-not-take_operand_at-clause-knows c m match =
    let yes : c.take_operand_at.result ≡ true = (c.take_operand_at.ensures.knows m match).0 in
    let no : c.take_operand_at.result ≡ false = c.if-not-take_operand_at.true in
    absurd cc

pub loop-index-preserved : goal.loop-index-preserved
loop-index-preserved c = record {
  sizes = as_many_along c.args.self.now c.loop-index.self c.take_operand_at.new.self c.loop-index.invariant.sizes c.take_operand_at.ensures.sizes;
  knows = λ m match. keeps_along m c.args.self.now c.loop-index.self c.take_operand_at.new.self (c.loop-index.invariant.knows m match) (c.take_operand_at.ensures.knows m match).1;
  operands = λ m i o match less at. elim (cases_eq i c.loop-index.index) [
    | inl same ↦ (c.take_operand_at.ensures.knows m match).2 o (subst (λ (k : ℕ). slice_get (operands_of c.args.op.now) k ≡ Some o) same at)
    | inr other ↦ keeps_operand m c.loop-index.self c.take_operand_at.new.self o (c.take_operand_at.ensures.knows m match).1 (c.loop-index.invariant.operands m i o match (omega arith) at)
  ];
}

pub returns-clause-knows : goal.returns-clause-knows
returns-clause-knows c m match = (
  refl,
  c.loop-index.invariant.knows m match,
  each_operand m c.loop-index.self (operands_of c.args.op.now) (λ i o at.
      c.loop-index.invariant.operands m i o match (omega (arith, at_most_three c.args.op.now i o at)) at),
)
