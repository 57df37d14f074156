use Rattle.bindings.proofs.Common.{none_true}
use Rattle.bindings.proofs.nodes.Nodes.none.Goals as goal

pub returns : goal.returns
returns c n = (λ at. none_true 256 n at, λ none. absurd none)
