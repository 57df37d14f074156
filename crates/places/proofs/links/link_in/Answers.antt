use Rattle.places.proofs.Common.{ap, ◌∙◌, with_after}
use Rattle.places.proofs.links.link_in.Goals as goal

pub returns : goal.returns
returns c = c.set_after.ensures ∙ ap (λ l. with_after l c.args.before c.args.number) c.set_before.ensures
