use Rattle.places.proofs.Linking.{numbers-listing}
use Rattle.places.proofs.NodeWrites.{listing-own}
use Rattle.places.proofs.order.Order.new.Goals as goal

pub invariant_of-result : goal.invariant_of-result
invariant_of-result c = listing-own c.in_ok-links.links.nodes.items 0 c.in_ok-links.links.first _ c.in_ok-links.ensures

pub returns : goal.returns
returns c = numbers-listing c.in_ok-links.links.nodes.items 0 c.in_ok-links.links.first _ c.in_ok-links.ensures
