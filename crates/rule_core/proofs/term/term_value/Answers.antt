use Rattle.rule_core.proofs.Common.{◌≡◌, sym, subst, ◌∙◌, get_or_from_slice_get, slice_index, IsValueOf}
use Rattle.rule_core.proofs.Fits.{value_fits}
use Rattle.rule_core.proofs.term.term_value.Goals as goal

pub returns-in-Binary-clause-width : goal.returns-in-Binary-clause-width
returns-in-Binary-clause-width g =
    let typing = g.args.typing.now in
    let class = g.args.term.class in
    let (N, at, _) = g.requires in
    let width : g.index-typing-term.result ≡ slice_index typing class
    = g.index-typing-term.is ∙ get_or_from_slice_get typing class N g.index-typing-term.result at ∙ sym (get_or_from_slice_get typing class N 0 at) in
    subst (λ N. IsValueOf N g.value_given.result) width
    (subst (IsValueOf g.index-typing-term.result) (sym g.value_given.ensures) (value_fits _ _ g.evaluate.ensures.width))
