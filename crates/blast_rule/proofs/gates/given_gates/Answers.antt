use Rattle.blast_rule.proofs.Common.{◌≡◌, length, ap, arith, length-map, few_terms, few_formulas, terms_gates, numbers_gates, formulas_gates, widths_of_terms}
use Rattle.blast_rule.proofs.Counts.{terms_within, formulas_read}
use Rattle.blast_rule.proofs.gates.given_gates.Goals as goal

pub terms_gates-requires-clause-few : goal.terms_gates-requires-clause-few
terms_gates-requires-clause-few c = omega (arith, ap length c.as_slice-terms.ensures, few_terms c.args.rule.now c.requires.rule)

pub terms_gates-requires-clause-classes : goal.terms_gates-requires-clause-classes
terms_gates-requires-clause-classes c = rw c.as_slice-terms.ensures (terms_within c.args.rule.now c.args.typing.now c.requires.rule c.requires.typing)

pub numbers_gates-requires-clause-few : goal.numbers_gates-requires-clause-few
numbers_gates-requires-clause-few c = omega (arith, ap length c.as_slice-terms.ensures, few_terms c.args.rule.now c.requires.rule)

pub numbers_gates-requires-clause-classes : goal.numbers_gates-requires-clause-classes
numbers_gates-requires-clause-classes c = rw c.as_slice-terms.ensures (terms_within c.args.rule.now c.args.typing.now c.requires.rule c.requires.typing)

pub formulas_gates-requires-clause-few : goal.formulas_gates-requires-clause-few
formulas_gates-requires-clause-few c = omega (arith, ap length c.as_slice-formulas.ensures, few_formulas c.args.rule.now c.requires.rule)

pub formulas_gates-requires-clause-classes : goal.formulas_gates-requires-clause-classes
formulas_gates-requires-clause-classes c = rw c.as_slice-terms.ensures (terms_within c.args.rule.now c.args.typing.now c.requires.rule c.requires.typing)

pub formulas_gates-requires-clause-there : goal.formulas_gates-requires-clause-there
formulas_gates-requires-clause-there c =
    rw (c.as_slice-terms.ensures, c.as_slice-formulas.ensures) (formulas_read c.args.rule.now c.args.typing.now c.requires.rule c.requires.typing)

pub overflow_cast-result : goal.overflow_cast-result
overflow_cast-result c = omega (arith, ap length c.as_slice-terms.ensures, few_terms c.args.rule.now c.requires.rule)

pub overflow_add-result-3 : goal.overflow_add-result-3
overflow_add-result-3 c = omega (arith, ap length c.as_slice-terms.ensures, few_terms c.args.rule.now c.requires.rule)

pub returns-clause-value : goal.returns-clause-value
returns-clause-value c =
    let typing = c.args.typing.now in
    let rule = c.args.rule.now in
    let terms : c.terms_gates.result ≡ terms_gates typing rule.terms = rw c.as_slice-terms.ensures at c.terms_gates.ensures.value in
    let numbers : c.numbers_gates.result ≡ numbers_gates (widths_of_terms rule typing) = rw c.as_slice-terms.ensures at c.numbers_gates.ensures.value in
    let formulas : c.formulas_gates.result ≡ formulas_gates (widths_of_terms rule typing) rule.precondition =
    rw (c.as_slice-terms.ensures, c.as_slice-formulas.ensures) at c.formulas_gates.ensures.value in
    let count : length (widths_of_terms rule typing) ≡ length rule.terms = length-map rule.terms _ in
    omega (arith, terms, numbers, formulas, count, ap length c.as_slice-terms.ensures)

pub returns-clause-few : goal.returns-clause-few
returns-clause-few c = omega (arith, ap length c.as_slice-terms.ensures, few_terms c.args.rule.now c.requires.rule)
