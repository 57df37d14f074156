use Rattle.rule_typing.proofs.Common.{◌⊎◌, ℕ, Some, Rule, Name, operands_among, choices_among, terms_in, operand_naming, choice_naming, term_naming, NamingOf}
use Rattle.rule_typing.specs.declared.half.Half.TheVariants as halves
use Rattle.rule_typing.proofs.Walks.{first_other, then_other}
use Rattle.rule_typing.proofs.names.other_read.Goals as goal

-- who reads the name: operands of the source, operands of the target, and the choices and nodes behind them
abbrev Source : Rule → Name → ℕ → Type 0
Source rule n = NamingOf operand_naming (operands_among rule.source) n

abbrev Target : Rule → Name → ℕ → Type 0
Target rule n = NamingOf operand_naming (operands_among rule.target) n

abbrev Behind : Rule → Name → ℕ → Type 0
Behind rule n = λ d. NamingOf (choice_naming halves.Target) (choices_among rule.target) n d ⊎ NamingOf term_naming (terms_in rule) n d

pub returns-in-Some : goal.returns-in-Some
returns-in-Some c =
    first_other (Source c.args.rule.now c.args.name) (λ d. Target c.args.rule.now c.args.name d ⊎ Behind c.args.rule.now c.args.name d) c.args.class c.in-Some.other (rw c.as_slice.ensures at c.in-Some.ensures)

pub returns-in-Some-other_by_statements : goal.returns-in-Some-other_by_statements
returns-in-Some-other_by_statements c =
    then_other (Source c.args.rule.now c.args.name) (λ d. Target c.args.rule.now c.args.name d ⊎ Behind c.args.rule.now c.args.name d) c.args.class (Some c.in-Some-other_by_statements.other) (rw c.as_slice.ensures at c.in-None.ensures)
    (first_other (Target c.args.rule.now c.args.name) (Behind c.args.rule.now c.args.name) c.args.class c.in-Some-other_by_statements.other (rw c.as_slice-in-None.ensures at c.in-Some-other_by_statements.ensures))

pub returns-in-None-other_by_statements : goal.returns-in-None-other_by_statements
returns-in-None-other_by_statements c =
    then_other (Source c.args.rule.now c.args.name) (λ d. Target c.args.rule.now c.args.name d ⊎ Behind c.args.rule.now c.args.name d) c.args.class c.other_behind_operands.result (rw c.as_slice.ensures at c.in-None.ensures)
    (then_other (Target c.args.rule.now c.args.name) (Behind c.args.rule.now c.args.name) c.args.class c.other_behind_operands.result (rw c.as_slice-in-None.ensures at c.in-None-other_by_statements.ensures) c.other_behind_operands.ensures)
