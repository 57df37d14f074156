use Rattle.rule_typing.proofs.Common.{◌≡◌, ℕ, Some, None, Statement, operands_of, operands_among, operand_naming, NamingOf, Contains}
use Rattle.rule_typing.proofs.Walks.{other_here, none_other, finds_as, naming_deep, naming_in}
use Rattle.rule_typing.proofs.Among.{one_further}
use Rattle.rule_typing.proofs.names.other_by_statements.Goals as goal

pub returns-in-Some : goal.returns-in-Some
returns-in-Some c = finds_as (λ d. (s : Statement) × Contains c.args.statements.now s × NamingOf operand_naming (operands_of s.op) c.args.name d) (NamingOf operand_naming (operands_among c.args.statements.now) c.args.name) c.args.class (Some c.in-Some.other)
    (naming_deep (λ (s : Statement). operands_of s.op) operand_naming c.args.statements.now c.args.name) (naming_in (λ (s : Statement). operands_of s.op) operand_naming c.args.statements.now c.args.name)
    (other_here (λ (s : Statement) (d : ℕ). NamingOf operand_naming (operands_of s.op) c.args.name d) c.args.statements.now c.loop-statement.statement-index c.statement-item.result c.args.class c.in-Some.other c.statement-item.is c.loop-statement-test.true (rw (c.as_slice.ensures, c.of-operands.ensures) at c.in-Some.ensures))

pub loop-statement-preserved : goal.loop-statement-preserved
loop-statement-preserved c = one_further (λ x. (d : ℕ) → (λ (s : Statement) (d : ℕ). NamingOf operand_naming (operands_of s.op) c.args.name d) x d → c.args.class ≡ d) c.args.statements.now c.loop-statement.statement-index c.statement-item.result c.statement-item.is (rw (c.as_slice.ensures, c.of-operands.ensures) at c.in_default.ensures) c.loop-statement.invariant

pub returns : goal.returns
returns c = finds_as (λ d. (s : Statement) × Contains c.args.statements.now s × NamingOf operand_naming (operands_of s.op) c.args.name d) (NamingOf operand_naming (operands_among c.args.statements.now) c.args.name) c.args.class None
    (naming_deep (λ (s : Statement). operands_of s.op) operand_naming c.args.statements.now c.args.name) (naming_in (λ (s : Statement). operands_of s.op) operand_naming c.args.statements.now c.args.name)
    (none_other (λ (s : Statement) (d : ℕ). NamingOf operand_naming (operands_of s.op) c.args.name d) c.args.statements.now c.loop-statement.statement-index c.args.class c.loop-statement.invariant c.loop-statement-test.false)
