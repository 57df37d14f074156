use Rattle.matcher.proofs.Common.{◌≡◌, ◌∙◌, refl, sym, subst, Some, slice_get, same_Some, operands_of, OperandMatches, KnowsOperand}
use Rattle.ir_core.specs.declared.read.Read.{Read}
use Rattle.rule_core.specs.declared.rule.Operand.{Operand}
use Rattle.matcher.proofs.slots.Slots.take_operand_at.Goals as goal

pub returns-in-Some-Some-clause-knows : goal.returns-in-Some-Some-clause-knows
returns-in-Some-Some-clause-knows c m match =
    let at : slice_get (operands_of c.args.op.now) c.args.index ≡ Some c.in-Some-Some.operand = sym c.operand_of.ensures ∙ c.in-Some-Some.is-0 in
    let (r, is_r, matches) = match c.args.index c.in-Some-Some.operand at in
    let one : r ≡ c.in-Some-Some.read = same_Some r c.in-Some-Some.read (sym is_r ∙ sym c.read_at.ensures ∙ c.in-Some-Some.is-1) in
    let knows = c.take_operand.ensures.knows m (subst (λ (x : Read). OperandMatches m c.in-Some-Some.operand x) one matches) in
    (refl, knows.0, λ o at_o. subst (λ (x : Operand). KnowsOperand c.take_operand.new.self m x) (same_Some c.in-Some-Some.operand o (sym at ∙ at_o)) knows.1)
