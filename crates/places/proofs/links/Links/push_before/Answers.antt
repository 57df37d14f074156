-- The new number is linked in between `at` and its predecessor.
use Rattle.places.proofs.Common.{◌≡◌, ◌<◌, cond, eqb, [], ◌∷◌, ◌++◌, length, take, drop, sym, ap, subst, ◌∙◌, arith, take_at, Node, none, node_of, IsListing, linked_in, numbers_in}
use Rattle.places.specs.Orders as numbers
use Rattle.places.proofs.NodeWrites.{put-done}
use Rattle.places.proofs.links.Links.push_before.Goals as goal

pub node_at-node-requires : goal.node_at-node-requires
node_at-node-requires c = subst (λ l. c.args.at < length l) (sym c.as_slice.ensures.value) c.requires.at

pub between-label-requires : goal.between-label-requires
between-label-requires c =
    let nodes = c.args.self.now.nodes.items in
    let node = c.node_at-node.result in
    let node_is : node ≡ node_of nodes c.args.at = c.node_at-node.ensures ∙ ap (λ l. node_of l c.args.at) c.as_slice.ensures.value in
    let low_is : c.label_of-low.result ≡ (node_of nodes node.before).label = c.label_of-low.ensures ∙ ap (λ l. (node_of l node.before).label) c.as_slice-2.ensures.value in
    let low : (node_of nodes node.before).label ≡ (node_of nodes (node_of nodes c.args.at).before).label = ap (λ (n : Node). (node_of nodes n.before).label) node_is in
    let high : node.label ≡ (node_of nodes c.args.at).label = ap (λ (n : Node). n.label) node_is in
    let room = c.requires.room in
    omega arith

pub returns-clause-ok : goal.returns-clause-ok
returns-clause-ok c =
    let nodes = c.args.self.now.nodes.items in
    let first = c.args.self.now.first in
    let at = c.args.at in
    let ns = numbers_in c.args.self.now in
    let node = c.node_at-node.result in
    let label = c.between-label.result in
    let number = c.len-number.result in
    let new = c.link_in.new.nodes in
    let node_is : node ≡ node_of nodes at = c.node_at-node.ensures ∙ ap (λ l. node_of l at) c.as_slice.ensures.value in
    let low_is : c.label_of-low.result ≡ (node_of nodes node.before).label = c.label_of-low.ensures ∙ ap (λ l. (node_of l node.before).label) c.as_slice-2.ensures.value in
    let high_is : node.label ≡ (node_of nodes at).label = ap (λ (n : Node). n.label) node_is in
    let above = c.between-label.ensures.above in
    let below = c.between-label.ensures.below in
    let pushed : c.as_mut_slice.result.now ≡ nodes ++ record { label = label; before = node.before; after = at } ∷ [] = c.as_mut_slice.ensures.value ∙ c.in_ok-push.ensures.items in
    let new_is : new ≡ linked_in (nodes ++ record { label = label; before = node.before; after = at } ∷ []) at node.before number =
    c.link_in.ensures ∙ ap (λ l. linked_in l at node.before number) pushed in
    let done = put-done nodes new first at node.before label number ns c.requires.listing c.requires.at c.requires.few (ap (λ (n : Node). n.before) node_is) (omega arith) (omega arith) (omega arith) new_is in
    let written = take_at new (drop (length new) c.push.new.self.items) c.push.new.self.len (omega arith) in
    subst (λ f. IsListing (take c.push.new.self.len (new ++ drop (length new) c.push.new.self.items)) 0 f (numbers.put_before ns at number)) (sym c.if_first-self.ensures)
    (subst (λ l. IsListing l 0 (cond (eqb node.before none) number first) (numbers.put_before ns at number)) (sym written) done)
