-- Each turn gives one more number its label, and at the end all have theirs.
use Rattle.places.proofs.Common.{◌≡◌, suc, ◌+◌, ◌*◌, length, get_or, refl, subst, sym, ap, ◌∙◌, arith, length-set, Node, none, node_of, place_in, numbers_in, IsListing}
use Rattle.places.proofs.Linking.{linked-within, linked-after}
use Rattle.places.proofs.Members.{at_place}
use Rattle.places.proofs.Spacing.{AreSpaced, none-spaced, one-spaced, spaced-listing, spaced-room}
use Rattle.places.proofs.links.Links.label_anew.Goals as goal

pub loop-place-init : goal.loop-place-init
loop-place-init c =
    let links = c.args.self.now in
    let ns = numbers_in links in
    let s = c.args.spacing in
    let there = at_place ns s.first c.requires.spacing.has in
    let here : place_in ns s.first + 0 ≡ place_in ns s.first = omega arith in
    record {
      label = omega arith;
      number = sym (ap (λ k. get_or ns k none) here ∙ there.is);
      first = refl;
      spaced = none-spaced links.nodes.items ns s;
    }

pub set_label-requires : goal.set_label-requires
set_label-requires c =
    let links = c.args.self.now in
    let ns = numbers_in links in
    let s = c.args.spacing in
    let h = c.loop-place.invariant in
    let within = c.requires.spacing.within in
    let many = h.spaced.links.many in
    let number = h.number in
    let below = linked-within links.nodes.items 0 none links.first ns (place_in ns s.first + c.loop-place.place) c.requires.listing.linked (omega arith) in
    omega arith

pub node_at-number-requires : goal.node_at-number-requires
node_at-number-requires c =
    let links = c.args.self.now in
    let ns = numbers_in links in
    let s = c.args.spacing in
    let h = c.loop-place.invariant in
    let within = c.requires.spacing.within in
    let many = h.spaced.links.many in
    let number = h.number in
    let below = linked-within links.nodes.items 0 none links.first ns (place_in ns s.first + c.loop-place.place) c.requires.listing.linked (omega arith) in
    let lengths : length c.as_slice.result.now ≡ length c.loop-place.self.nodes.items = ap length c.as_slice.ensures.value ∙ ap length c.set_label.ensures.nodes ∙ length-set c.loop-place.self.nodes.items _ _ in
    omega arith

pub loop-place-preserved : goal.loop-place-preserved
loop-place-preserved c =
    let links = c.args.self.now in
    let old = links.nodes.items in
    let ns = numbers_in links in
    let s = c.args.spacing in
    let place = c.loop-place.place in
    let h = c.loop-place.invariant in
    let label = c.loop-place.label + s.gap in
    let within = c.requires.spacing.within in
    let label_was = h.label in
    let label_is : label ≡ s.low + (place + 1) * s.gap = omega arith in
    let spaced : AreSpaced old c.set_label.new.self.nodes.items ns s (place + 1) = subst (λ l. AreSpaced old l ns s (place + 1)) (sym c.set_label.ensures.nodes)
    (one-spaced old c.loop-place.self.nodes.items links.first ns s place c.loop-place.number label c.requires.listing (omega arith) h.spaced h.number label_is) in
    record {
      label = label_is;
      number = ap (λ (n : Node). n.after) c.node_at-number.ensures ∙ ap (λ l. (node_of l c.loop-place.number).after) c.as_slice.ensures.value ∙ spaced.links.after c.loop-place.number ∙ ap (λ n. (node_of old n).after) h.number
          ∙ linked-after old 0 none links.first ns (place_in ns s.first + place) c.requires.listing.linked (omega arith)
          ∙ (let step : suc (place_in ns s.first + place) ≡ place_in ns s.first + (place + 1) = omega arith in ap (λ k. get_or ns k none) step);
      first = c.set_label.ensures.first ∙ h.first;
      spaced = spaced;
    }

pub returns-clause-listing : goal.returns-clause-listing
returns-clause-listing c =
    let links = c.args.self.now in
    let new = c.loop-place.self in
    let s = c.args.spacing in
    let h = c.loop-place.invariant in
    let all : c.loop-place.place ≡ s.count = omega arith in
    subst (λ f. IsListing new.nodes.items 0 f (numbers_in links)) (sym h.first)
    (spaced-listing links.nodes.items new.nodes.items links.first (numbers_in links) s c.requires.listing c.requires.spacing
    (subst (AreSpaced links.nodes.items new.nodes.items (numbers_in links) s) all h.spaced))

pub returns-clause-room : goal.returns-clause-room
returns-clause-room c =
    let links = c.args.self.now in
    let new = c.loop-place.self in
    let s = c.args.spacing in
    let all : c.loop-place.place ≡ s.count = omega arith in
    spaced-room links.nodes.items new.nodes.items links.first (numbers_in links) s c.requires.listing c.requires.spacing
    (subst (AreSpaced links.nodes.items new.nodes.items (numbers_in links) s) all c.loop-place.invariant.spaced)
