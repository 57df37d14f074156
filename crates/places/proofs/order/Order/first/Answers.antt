use Rattle.places.proofs.Common.{ap, ◌∙◌, slice_get}
use Rattle.places.proofs.order.Order.first.Goals as goal

pub returns : goal.returns
returns c = c.first.ensures ∙ ap (λ l. slice_get l 0) c.self.view_is
