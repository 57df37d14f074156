use Rattle.rule_typing.proofs.Common.{choices_among, terms_in, choice_naming, term_naming, NamingOf}
use Rattle.rule_typing.specs.declared.half.Half.TheVariants as halves
use Rattle.rule_typing.proofs.Walks.{first_other, then_other}
use Rattle.rule_typing.proofs.names.other_behind_operands.Goals as goal

pub returns-in-Some : goal.returns-in-Some
returns-in-Some c =
    first_other (NamingOf (choice_naming halves.Target) (choices_among c.args.rule.now.target) c.args.name) (NamingOf term_naming (terms_in c.args.rule.now) c.args.name) c.args.class c.in-Some.other
    (rw c.as_slice.ensures at c.in-Some.ensures)

pub returns-in-None : goal.returns-in-None
returns-in-None c =
    then_other (NamingOf (choice_naming halves.Target) (choices_among c.args.rule.now.target) c.args.name) (NamingOf term_naming (terms_in c.args.rule.now) c.args.name) c.args.class c.other_in_terms.result
    (rw c.as_slice.ensures at c.in-None.ensures) c.other_in_terms.ensures
