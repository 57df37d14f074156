use Rattle.places.proofs.Common.{◌≡◌, ap, ◌∙◌, arith, ltb-true, lt-ltb, node_of, numbers_in}
use Rattle.places.proofs.NodeWrites.{listing-order}
use Rattle.places.proofs.links.Links.is_before.Goals as goal

pub returns : goal.returns
returns c =
    let links = c.args.self.now in
    let order = listing-order links.nodes.items 0 links.first (numbers_in links) c.args.one c.args.other c.requires.listing c.requires.one c.requires.other in
    let low : c.label_of-low.result ≡ (node_of links.nodes.items c.args.one).label = c.label_of-low.ensures ∙ ap (λ l. (node_of l c.args.one).label) c.as_slice.ensures.value in
    let high : c.label_of-high.result ≡ (node_of links.nodes.items c.args.other).label = c.label_of-high.ensures ∙ ap (λ l. (node_of l c.args.other).label) c.as_slice-2.ensures.value in (
      λ t. order.0 (let lt = ltb-true c.label_of-low.result c.label_of-high.result t in omega arith),
      λ before. lt-ltb c.label_of-low.result c.label_of-high.result (let lt = order.1 before in omega arith),
    )
