use Rattle.rule_typing.specs.declared.half.Half.TheVariants as halves
use Rattle.rule_typing.proofs.Common.{StatementsLine, TermsLine, FormulasLine, RootLine}
use Rattle.rule_typing.proofs.SplitLines.{half_line, terms_line, witness_line, formulas_line, root_line, line_found, last_found, none_left}
use Rattle.rule_typing.proofs.lines.split_line.Goals as goal

pub returns-in-Some-clause-split : goal.returns-in-Some-clause-split
returns-in-Some-clause-split c = line_found c.args.rule.now (StatementsLine c.args.rule.now halves.Source c.args.rule.now.source) c.in-Some.pair (half_line c.args.rule.now halves.Source) (rw c.as_slice.ensures at c.in-Some.ensures)

pub returns-in-Some-split_by_half-clause-split : goal.returns-in-Some-split_by_half-clause-split
returns-in-Some-split_by_half-clause-split c = line_found c.args.rule.now (StatementsLine c.args.rule.now halves.Target c.args.rule.now.target) c.in-Some-split_by_half.pair (half_line c.args.rule.now halves.Target) (rw c.as_slice-2.ensures at c.in-Some-split_by_half.ensures)

pub returns-in-Some-split_by_terms-clause-split : goal.returns-in-Some-split_by_terms-clause-split
returns-in-Some-split_by_terms-clause-split c = line_found c.args.rule.now (TermsLine c.args.rule.now c.args.rule.now.terms) c.in-Some-split_by_terms.pair (terms_line c.args.rule.now) (rw c.as_slice-3.ensures at c.in-Some-split_by_terms.ensures)

pub returns-in-Some-split_by_terms-2-clause-split : goal.returns-in-Some-split_by_terms-2-clause-split
returns-in-Some-split_by_terms-2-clause-split c = line_found c.args.rule.now (TermsLine c.args.rule.now c.args.rule.now.witness_terms) c.in-Some-split_by_terms-2.pair (witness_line c.args.rule.now) (rw c.as_slice-4.ensures at c.in-Some-split_by_terms-2.ensures)

pub returns-in-Some-split_by_formulas-clause-split : goal.returns-in-Some-split_by_formulas-clause-split
returns-in-Some-split_by_formulas-clause-split c = line_found c.args.rule.now (FormulasLine c.args.rule.now c.args.rule.now.terms c.args.rule.now.precondition) c.in-Some-split_by_formulas.pair (formulas_line c.args.rule.now) (rw (c.as_slice-5.ensures, c.as_slice-6.ensures) at c.in-Some-split_by_formulas.ensures)

pub returns-clause-split : goal.returns-clause-split
returns-clause-split c = last_found c.args.rule.now (RootLine c.args.rule.now) c.split_by_root.result (root_line c.args.rule.now) c.split_by_root.ensures

pub returns-clause-none : goal.returns-clause-none
returns-clause-none c =
    none_left c.args.rule.now c.split_by_root.result (rw c.as_slice.ensures at c.in_default.ensures) (rw c.as_slice-2.ensures at (c.in_default-split_by_half).ensures) (rw c.as_slice-3.ensures at (c.in_default-split_by_terms).ensures)
    (rw c.as_slice-4.ensures at (c.in_default-split_by_terms-2).ensures) (rw (c.as_slice-5.ensures, c.as_slice-6.ensures) at (c.in_default-split_by_formulas).ensures) c.split_by_root.ensures
