use Rattle.rule_typing.proofs.Sets.{none_true}
use Rattle.rule_typing.proofs.widths.Widths.none.Goals as goal

pub returns : goal.returns
returns c N = (λ (low, at). none_true 65 N at, λ none. absurd none)
