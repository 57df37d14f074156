use Rattle.rule_typing.proofs.Common.{◌≡◌, ℕ, Option, Some, Statement, StatementFixes}
use Rattle.rule_typing.proofs.Among.{stands_here, one_further, all_of_them}
use Rattle.rule_typing.proofs.fixed.fixed_by_statements.Goals as goal

-- any width that the statement fixes for the class is `but`
FixesNoOther : Option ℕ → ℕ → Statement → Type 0
FixesNoOther but class s = (N : ℕ) → StatementFixes class N s → but ≡ Some N

pub returns-in-Some-clause-some : goal.returns-in-Some-clause-some
returns-in-Some-clause-some c = (
  (c.statement-item.result, stands_here c.args.statements.now c.loop-statement.statement-index c.statement-item.result c.statement-item.is c.loop-statement-test.true, c.in-Some.ensures.some.0),
  c.in-Some.ensures.some.1,
)

pub loop-statement-preserved : goal.loop-statement-preserved
unfolding FixesNoOther
loop-statement-preserved c =
    one_further (FixesNoOther c.args.but.now c.args.class) c.args.statements.now c.loop-statement.statement-index c.statement-item.result c.statement-item.is c.in_default.ensures.none c.loop-statement.invariant

pub returns-clause-none : goal.returns-clause-none
unfolding FixesNoOther
returns-clause-none c =
    λ s N stands how. all_of_them (FixesNoOther c.args.but.now c.args.class) c.args.statements.now c.loop-statement.statement-index c.loop-statement.invariant c.loop-statement-test.false s stands N how
