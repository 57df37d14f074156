use Rattle.places.proofs.Common.{◌<◌, length, sym, subst, arith, numbers_in}
use Rattle.places.proofs.Members.{at_place}
use Rattle.places.proofs.NodeWrites.{listing-inside}
use Rattle.places.proofs.Runs.{step-on}
use Rattle.places.proofs.links.Links.up_to.Goals as goal

pub after_up_to-requires : goal.after_up_to-requires
after_up_to-requires c =
    let links = c.args.self.now in
    let run = c.loop-number.run in
    subst (λ l. run.last < length l) (sym c.as_slice.ensures.value) (listing-inside links.nodes.items 0 links.first (numbers_in links) run.last c.requires.listing c.loop-number.invariant.run.last)

pub overflow_add-run : goal.overflow_add-run
overflow_add-run c =
    let links = c.args.self.now in
    let run = c.loop-number.run in
    let h = c.loop-number.invariant.run in
    let number = c.in-Some.number in
    let step = step-on links.nodes.items c.as_slice.result.now links.first (numbers_in links) run number c.requires.listing h c.as_slice.ensures.value c.in-Some.ensures.after c.in-Some.ensures.inside in
    let there = at_place (numbers_in links) number (c.requires.listing.all number (subst (λ l. number < length l) c.as_slice.ensures.value c.in-Some.ensures.inside)) in
    let within = there.within in
    let few = c.requires.listing.few in
    let all = c.requires.listing.many in
    let many = h.many in
    omega arith

pub loop-number-smaller : goal.loop-number-smaller
loop-number-smaller c =
    let links = c.args.self.now in
    let number = c.in-Some.number in
    let step = step-on links.nodes.items c.as_slice.result.now links.first (numbers_in links) c.loop-number.run number c.requires.listing c.loop-number.invariant.run c.as_slice.ensures.value c.in-Some.ensures.after c.in-Some.ensures.inside in
    let there = at_place (numbers_in links) number (c.requires.listing.all number (subst (λ l. number < length l) c.as_slice.ensures.value c.in-Some.ensures.inside)) in
    let within = there.within in
    omega arith

pub loop-number-preserved : goal.loop-number-preserved
loop-number-preserved c =
    let links = c.args.self.now in
    let run = c.loop-number.run in
    let h = c.loop-number.invariant in
    let number = c.in-Some.number in
    let step = step-on links.nodes.items c.as_slice.result.now links.first (numbers_in links) run number c.requires.listing h.run c.as_slice.ensures.value c.in-Some.ensures.after c.in-Some.ensures.inside in
    let many = h.run.many in
    let behind = h.more.1 in
    record {
      run = record { first = h.run.first; last = c.requires.listing.all number (subst (λ l. number < length l) c.as_slice.ensures.value c.in-Some.ensures.inside); many = omega arith };
      more = (h.more.0, omega arith);
      first = h.first;
    }
