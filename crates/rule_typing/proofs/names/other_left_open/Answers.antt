use Rattle.rule_typing.proofs.Common.{◌≡◌, ℕ, Some, None, Statement, choices_of, choices_among, choice_naming, NamingOf, Contains}
use Rattle.rule_typing.proofs.Walks.{other_here, none_other, finds_as, naming_deep, naming_in}
use Rattle.rule_typing.specs.declared.half.Half.TheVariants as halves
use Rattle.rule_typing.proofs.Among.{one_further}
use Rattle.rule_typing.proofs.names.other_left_open.Goals as goal

pub returns-in-Some : goal.returns-in-Some
returns-in-Some c = finds_as (λ d. (s : Statement) × Contains c.args.statements.now s × NamingOf (choice_naming halves.Target) (choices_of s) c.args.name d) (NamingOf (choice_naming halves.Target) (choices_among c.args.statements.now) c.args.name) c.args.class (Some c.in-Some.other)
    (naming_deep (λ (s : Statement). choices_of s) (choice_naming halves.Target) c.args.statements.now c.args.name) (naming_in (λ (s : Statement). choices_of s) (choice_naming halves.Target) c.args.statements.now c.args.name)
    (other_here (λ (s : Statement) (d : ℕ). NamingOf (choice_naming halves.Target) (choices_of s) c.args.name d) c.args.statements.now c.loop-statement.statement-index c.statement-item.result c.args.class c.in-Some.other c.statement-item.is c.loop-statement-test.true (rw (c.as_slice.ensures, c.of-choices.ensures) at c.in-Some.ensures))

pub loop-statement-preserved : goal.loop-statement-preserved
loop-statement-preserved c = one_further (λ x. (d : ℕ) → (λ (s : Statement) (d : ℕ). NamingOf (choice_naming halves.Target) (choices_of s) c.args.name d) x d → c.args.class ≡ d) c.args.statements.now c.loop-statement.statement-index c.statement-item.result c.statement-item.is (rw (c.as_slice.ensures, c.of-choices.ensures) at c.in_default.ensures) c.loop-statement.invariant

pub returns : goal.returns
returns c = finds_as (λ d. (s : Statement) × Contains c.args.statements.now s × NamingOf (choice_naming halves.Target) (choices_of s) c.args.name d) (NamingOf (choice_naming halves.Target) (choices_among c.args.statements.now) c.args.name) c.args.class None
    (naming_deep (λ (s : Statement). choices_of s) (choice_naming halves.Target) c.args.statements.now c.args.name) (naming_in (λ (s : Statement). choices_of s) (choice_naming halves.Target) c.args.statements.now c.args.name)
    (none_other (λ (s : Statement) (d : ℕ). NamingOf (choice_naming halves.Target) (choices_of s) c.args.name d) c.args.statements.now c.loop-statement.statement-index c.args.class c.loop-statement.invariant c.loop-statement-test.false)
