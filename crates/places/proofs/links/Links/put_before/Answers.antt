-- Making room leaves the numbers as they are.
use Rattle.places.proofs.Common.{subst, IsListing, numbers_in}
use Rattle.places.specs.Orders as numbers
use Rattle.places.proofs.Linking.{numbers-listing}
use Rattle.places.proofs.NodeWrites.{listing-inside, listing-own, on_err}
use Rattle.places.proofs.links.Links.put_before.Goals as goal

pub make_room-requires-clause-at : goal.make_room-requires-clause-at
make_room-requires-clause-at c =
    let links = c.args.self.now in
    listing-inside links.nodes.items 0 links.first (numbers_in links) c.args.at c.requires.listing c.requires.at

pub push_before-requires-clause-listing : goal.push_before-requires-clause-listing
push_before-requires-clause-listing c =
    let links = c.make_room.new.self in
    listing-own links.nodes.items 0 links.first (numbers_in c.args.self.now) c.make_room.ensures.listing

pub returns-in_err-number-clause-err : goal.returns-in_err-number-clause-err
returns-in_err-number-clause-err c =
    let links = c.make_room.new.self in
    on_err c.from_residual.result _ (subst (IsListing c.push_before.new.self.nodes.items 0 c.push_before.new.self.first)
    (numbers-listing links.nodes.items 0 links.first (numbers_in c.args.self.now) c.make_room.ensures.listing) c.in_err-number.ensures.err)

pub returns-clause-ok : goal.returns-clause-ok
returns-clause-ok c =
    let links = c.make_room.new.self in
    subst (λ ns. IsListing c.push_before.new.self.nodes.items 0 c.push_before.new.self.first (numbers.put_before ns c.args.at c.in_ok-number.number))
    (numbers-listing links.nodes.items 0 links.first (numbers_in c.args.self.now) c.make_room.ensures.listing) c.in_ok-number.ensures.ok
