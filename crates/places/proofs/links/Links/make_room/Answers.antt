-- Each label is above its predecessor's, and by more than 1 once labels are given anew.
use Rattle.places.proofs.Common.{◌≡◌, ◌<◌, length, sym, subst, ap, ◌∙◌, arith, Node, node_of, numbers_in}
use Rattle.places.proofs.Labelling.{listing-room}
use Rattle.places.proofs.links.Links.make_room.Goals as goal

pub node_at-node-requires : goal.node_at-node-requires
node_at-node-requires c = subst (λ l. c.args.at < length l) (sym c.as_slice.ensures.value) c.requires.at

pub overflow_sub-gap : goal.overflow_sub-gap
overflow_sub-gap c =
    let links = c.args.self.now in
    let nodes = links.nodes.items in
    let node = c.node_at-node.result in
    let room = listing-room nodes 0 links.first (numbers_in links) c.args.at c.requires.listing c.requires.at in
    let node_is : node ≡ node_of nodes c.args.at = c.node_at-node.ensures ∙ ap (λ l. node_of l c.args.at) c.as_slice.ensures.value in
    let low : c.label_of-low.result ≡ (node_of nodes (node_of nodes c.args.at).before).label =
    c.label_of-low.ensures ∙ ap (λ l. (node_of l node.before).label) c.as_slice-2.ensures.value ∙ ap (λ (n : Node). (node_of nodes n.before).label) node_is in
    let high : node.label ≡ (node_of nodes c.args.at).label = ap (λ (n : Node). n.label) node_is in
    omega arith
