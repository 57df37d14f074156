use Rattle.blast_rule.proofs.Common.{length, ap, arith, few_formulas}
use Rattle.blast_rule.proofs.Counts.{terms_within, formulas_read}
use Rattle.blast_rule.proofs.gates.said_gates.Goals as goal

pub facts_gates-requires-clause-few : goal.facts_gates-requires-clause-few
facts_gates-requires-clause-few c = omega (arith, ap length c.as_slice.ensures, few_formulas c.args.rule.now c.requires.rule)

pub facts_gates-requires-clause-classes : goal.facts_gates-requires-clause-classes
facts_gates-requires-clause-classes c = rw c.as_slice-terms.ensures (terms_within c.args.rule.now c.args.typing.now c.requires.rule c.requires.typing)

pub facts_gates-requires-clause-there : goal.facts_gates-requires-clause-there
facts_gates-requires-clause-there c =
    rw (c.as_slice-terms.ensures, c.as_slice.ensures) (formulas_read c.args.rule.now c.args.typing.now c.requires.rule c.requires.typing)

pub returns-clause-value : goal.returns-clause-value
returns-clause-value c = rw (c.as_slice-terms.ensures, c.as_slice.ensures) at c.facts_gates.ensures.value

pub returns-clause-few : goal.returns-clause-few
returns-clause-few c = c.facts_gates.ensures.few
