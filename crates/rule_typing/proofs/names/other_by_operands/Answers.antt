use Rattle.rule_typing.proofs.Common.{◌≡◌, ℕ, Some, Operand, operand_naming}
use Rattle.rule_typing.proofs.Walks.{other_here, none_other}
use Rattle.rule_typing.proofs.Among.{one_further}
use Rattle.rule_typing.proofs.names.other_by_operands.Goals as goal

pub returns-in-Some : goal.returns-in-Some
returns-in-Some c = other_here (λ (o : Operand) (d : ℕ). operand_naming o ≡ Some (c.args.name, d)) c.args.operands.now c.loop-operand.operand-index c.operand-item.result c.args.class c.in-Some.other c.operand-item.is c.loop-operand-test.true (rw c.operand_naming.ensures at c.in-Some.ensures)

pub loop-operand-preserved : goal.loop-operand-preserved
loop-operand-preserved c = one_further (λ x. (d : ℕ) → (λ (o : Operand) (d : ℕ). operand_naming o ≡ Some (c.args.name, d)) x d → c.args.class ≡ d) c.args.operands.now c.loop-operand.operand-index c.operand-item.result c.operand-item.is (rw c.operand_naming.ensures at c.in_default.ensures) c.loop-operand.invariant

pub returns : goal.returns
returns c = none_other (λ (o : Operand) (d : ℕ). operand_naming o ≡ Some (c.args.name, d)) c.args.operands.now c.loop-operand.operand-index c.args.class c.loop-operand.invariant c.loop-operand-test.false
