use Rattle.rule_typing.proofs.Common.{◌++◌, subst, sym, flat_map, Rule, classes_of_statement, classes_of_term, IsPast}
use Rattle.rule_typing.proofs.Past.{past_both, all_below}
use Rattle.rule_typing.proofs.Relabelled.{classes_apart}
use Rattle.rule_typing.proofs.fits.class_count.Goals as goal

pub returns : goal.returns
returns c =
    let rule : Rule = c.args.rule.now in
    let source = flat_map classes_of_statement rule.source in
    let target = flat_map classes_of_statement rule.target in
    let terms = flat_map classes_of_term rule.terms in
    let witness = flat_map classes_of_term rule.witness_terms in
    let halves : IsPast (source ++ target) c.max.result
    = past_both source target c.past_statements-source.result c.past_statements-target.result c.max.result (rw c.as_slice.ensures at c.past_statements-source.ensures) (rw c.as_slice-2.ensures at c.past_statements-target.ensures) c.max.ensures in
    let nodes : IsPast (terms ++ witness) c.max-2.result
    = past_both terms witness c.past_terms-terms.result c.past_terms-witness_terms.result c.max-2.result (rw c.as_slice-3.ensures at c.past_terms-terms.ensures) (rw c.as_slice-4.ensures at c.past_terms-witness_terms.ensures) c.max-2.ensures in
    all_below rule c.max-3.result c.requires
    (subst (λ l. IsPast l c.max-3.result) (sym (classes_apart rule)) (past_both (source ++ target) (terms ++ witness) c.max.result c.max-2.result c.max-3.result halves nodes c.max-3.ensures))
