use Rattle.rule_typing.proofs.Common.{◌≡◌, ℕ, Option, Some, Operand, FixesWidth}
use Rattle.rule_typing.proofs.Among.{stands_here, one_further, all_of_them}
use Rattle.rule_typing.proofs.fixed.fixed_by_operands.Goals as goal

-- any width that the operand fixes for the class is `but`
FixesNoOther : Option ℕ → ℕ → Operand → Type 0
FixesNoOther but class o = (N : ℕ) → FixesWidth class N o → but ≡ Some N

pub returns-in-Some-clause-some : goal.returns-in-Some-clause-some
returns-in-Some-clause-some c = (
  (c.operand-item.result, stands_here c.args.operands.now c.loop-operand.operand-index c.operand-item.result c.operand-item.is c.loop-operand-test.true, c.in-Some.ensures.some.0),
  c.in-Some.ensures.some.1,
)

pub loop-operand-preserved : goal.loop-operand-preserved
unfolding FixesNoOther
loop-operand-preserved c =
    one_further (FixesNoOther c.args.but.now c.args.class) c.args.operands.now c.loop-operand.operand-index c.operand-item.result c.operand-item.is c.in_default.ensures.none c.loop-operand.invariant

pub returns-clause-none : goal.returns-clause-none
unfolding FixesNoOther
returns-clause-none c =
    λ N (o, among, fixes). all_of_them (FixesNoOther c.args.but.now c.args.class) c.args.operands.now c.loop-operand.operand-index c.loop-operand.invariant c.loop-operand-test.false o among N fixes
