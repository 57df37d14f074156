use Rattle.rule_core.proofs.Common.{None, Some, take}
use Rattle.rule_core.proofs.Givens.{GivenFits-at, source_given}
use Rattle.rule_core.proofs.Returns.{terms_are, SourceRan-at, source_ends, source_returns}
use Rattle.rule_core.proofs.run.run_source.Goals as goal

pub source_values-requires-clause-given : goal.source_values-requires-clause-given
source_values-requires-clause-given c =
    GivenFits-at c.args.rule.now c.args.typing.now c.as_slice-3.result.now (take c.len-count.result c.args.rule.now.source) c.args.constants.now c.args.choices.now c.as_slice-4.result.now c.as_slice-5.result.now c.deref.result.now
    c.as_slice-3.ensures c.as_slice-4.ensures c.as_slice-5.ensures
    (terms_are c.args.rule.now c.args.typing.now c.as_slice.result.now c.args.constants.now c.as_slice-2.result.now c.in_ok-terms.terms.items c.deref.result.now c.as_slice.ensures c.as_slice-2.ensures c.in_ok-terms.ensures c.deref.ensures.value)
    (source_given c.args.rule.now c.args.typing.now c.args.constants.now c.requires.rule c.requires.typing c.requires.constants c.args.choices.now c.len-count.result c.requires.choices)

pub returns-in_default : goal.returns-in_default
returns-in_default c =
    let terms = terms_are c.args.rule.now c.args.typing.now c.as_slice.result.now c.args.constants.now c.as_slice-2.result.now c.in_ok-terms.terms.items c.deref.result.now c.as_slice.ensures c.as_slice-2.ensures c.in_ok-terms.ensures c.deref.ensures.value in
    source_ends c.args.rule.now c.args.typing.now c.args.constants.now c.args.choices.now c.args.inputs.now c.len-count.result c.len-count.ensures
    (SourceRan-at c.args.rule.now c.args.typing.now c.as_slice-3.result.now c.args.constants.now c.as_slice-4.result.now c.args.choices.now c.as_slice-5.result.now c.deref.result.now c.args.inputs.now c.as_slice-6.result.now
    c.as_slice-3.ensures c.as_slice-4.ensures c.as_slice-5.ensures terms c.as_slice-6.ensures c.len-count.result None (rw c.in_default.is at c.in_ok-values.ensures))

pub returns : goal.returns
returns c =
    let terms = terms_are c.args.rule.now c.args.typing.now c.as_slice.result.now c.args.constants.now c.as_slice-2.result.now c.in_ok-terms.terms.items c.deref.result.now c.as_slice.ensures c.as_slice-2.ensures c.in_ok-terms.ensures c.deref.ensures.value in
    source_returns c.args.rule.now c.args.typing.now c.args.constants.now c.args.choices.now c.args.inputs.now c.len-count.result c.in-Some.values.items c.index.result.now c.len-count.ensures c.requires.rule.source_root
    (SourceRan-at c.args.rule.now c.args.typing.now c.as_slice-3.result.now c.args.constants.now c.as_slice-4.result.now c.args.choices.now c.as_slice-5.result.now c.deref.result.now c.args.inputs.now c.as_slice-6.result.now
    c.as_slice-3.ensures c.as_slice-4.ensures c.as_slice-5.ensures terms c.as_slice-6.ensures c.len-count.result (Some c.in-Some.values.items) (rw c.in-Some.is at c.in_ok-values.ensures))
    c.index.ensures
