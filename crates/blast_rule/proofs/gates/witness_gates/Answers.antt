use Rattle.blast_rule.proofs.Common.{◌≡◌, length, ap, arith, few_terms, terms_gates, choices_gates, widths_of_witness, few_choices}
use Rattle.blast_rule.proofs.Counts.{expressions_within, places_within}
use Rattle.blast_rule.proofs.gates.witness_gates.Goals as goal

pub terms_gates-requires-clause-few : goal.terms_gates-requires-clause-few
terms_gates-requires-clause-few c = omega (arith, ap length c.as_slice-terms.ensures, few_terms c.args.rule.now c.requires.rule)

pub terms_gates-requires-clause-classes : goal.terms_gates-requires-clause-classes
terms_gates-requires-clause-classes c = rw c.as_slice-terms.ensures (expressions_within c.args.rule.now c.args.typing.now c.requires.rule c.requires.typing)

pub choices_gates-requires-clause-few : goal.choices_gates-requires-clause-few
choices_gates-requires-clause-few c =
    omega (arith, ap length c.as_slice-places.ensures, c.requires.rule.witnesses, few_choices c.args.rule.now.source, c.requires.rule.few_in_source)

pub choices_gates-requires-clause-classes : goal.choices_gates-requires-clause-classes
choices_gates-requires-clause-classes c = rw c.as_slice-terms.ensures (expressions_within c.args.rule.now c.args.typing.now c.requires.rule c.requires.typing)

pub choices_gates-requires-clause-there : goal.choices_gates-requires-clause-there
choices_gates-requires-clause-there c =
    rw (c.as_slice-terms.ensures, c.as_slice-places.ensures) (places_within c.args.rule.now c.args.typing.now c.requires.rule c.requires.typing)

pub returns-clause-value : goal.returns-clause-value
returns-clause-value c =
    let typing = c.args.typing.now in
    let rule = c.args.rule.now in
    let terms : c.terms_gates.result ≡ terms_gates typing rule.witness_terms = rw c.as_slice-terms.ensures at c.terms_gates.ensures.value in
    let choices : c.choices_gates.result ≡ choices_gates (widths_of_witness rule typing) rule.witnesses =
    rw (c.as_slice-terms.ensures, c.as_slice-places.ensures) at c.choices_gates.ensures.value in
    omega (arith, terms, choices)
