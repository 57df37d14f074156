use Rattle.places.proofs.Common.{arith, ◌∙◌, none, numbers_in}
use Rattle.places.proofs.Linking.{linked-head, some-at}
use Rattle.places.proofs.links.Links.first.Goals as goal

pub returns : goal.returns
returns c =
    let links = c.args.self.now in
    let few = c.requires.few in
    c.some.ensures ∙ some-at links.nodes.items 0 none links.first (numbers_in links) 0 links.first (omega arith) c.requires.linked (linked-head links.nodes.items 0 none links.first (numbers_in links) c.requires.linked)
