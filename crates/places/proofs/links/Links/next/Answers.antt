use Rattle.places.proofs.Common.{◌≡◌, ◌<◌, cond, eqb, None, Some, length, sym, ap, subst, ◌∙◌, Node, none, node_of, numbers_in}
use Rattle.places.proofs.NodeWrites.{listing-inside, listing-next}
use Rattle.places.proofs.links.Links.next.Goals as goal

pub node_at-node-requires : goal.node_at-node-requires
node_at-node-requires c =
    let links = c.args.self.now in
    subst (λ l. c.args.number < length l) (sym c.as_slice.ensures.value) (listing-inside links.nodes.items 0 links.first (numbers_in links) c.args.number c.requires.listing c.requires.number)

pub returns : goal.returns
returns c =
    let links = c.args.self.now in
    let node : c.node_at-node.result ≡ node_of links.nodes.items c.args.number = c.node_at-node.ensures ∙ ap (λ l. node_of l c.args.number) c.as_slice.ensures.value in
    c.some.ensures ∙ ap (λ (n : Node). cond (eqb n.after none) None (Some n.after)) node ∙ listing-next links.nodes.items 0 links.first (numbers_in links) c.args.number c.requires.listing c.requires.number
