use Rattle.places.proofs.Common.{◌<◌, length, sym, subst, arith, numbers_in}
use Rattle.places.proofs.NodeWrites.{listing-inside}
use Rattle.places.proofs.Runs.{run-few, step-back}
use Rattle.places.proofs.links.Links.down_to.Goals as goal

pub before_from-requires : goal.before_from-requires
before_from-requires c =
    let links = c.args.self.now in
    let run = c.loop-number.run in
    subst (λ l. run.first < length l) (sym c.as_slice.ensures.value) (listing-inside links.nodes.items 0 links.first (numbers_in links) run.first c.requires.listing c.loop-number.invariant.run.first)

pub overflow_add-run : goal.overflow_add-run
overflow_add-run c =
    let links = c.args.self.now in
    let run = c.loop-number.run in
    let h = c.loop-number.invariant.run in
    let step = step-back links.nodes.items c.as_slice.result.now links.first (numbers_in links) run c.in-Some.number c.requires.listing h c.as_slice.ensures.value c.in-Some.ensures.before c.in-Some.ensures.inside in
    let few = c.requires.listing.few in
    let many = c.requires.listing.many in
    let within = run-few (numbers_in links) run h in
    omega arith

pub loop-number-smaller : goal.loop-number-smaller
loop-number-smaller c =
    let links = c.args.self.now in
    let step = step-back links.nodes.items c.as_slice.result.now links.first (numbers_in links) c.loop-number.run c.in-Some.number c.requires.listing c.loop-number.invariant.run c.as_slice.ensures.value c.in-Some.ensures.before c.in-Some.ensures.inside in
    omega arith

pub loop-number-preserved : goal.loop-number-preserved
loop-number-preserved c =
    let links = c.args.self.now in
    let run = c.loop-number.run in
    let h = c.loop-number.invariant in
    let number = c.in-Some.number in
    let step = step-back links.nodes.items c.as_slice.result.now links.first (numbers_in links) run number c.requires.listing h.run c.as_slice.ensures.value c.in-Some.ensures.before c.in-Some.ensures.inside in
    let many = h.run.many in
    let before = h.more.0 in
    record {
      run = record { first = c.requires.listing.all number (subst (λ l. number < length l) c.as_slice.ensures.value c.in-Some.ensures.inside); last = h.run.last; many = omega arith };
      more = (omega arith, h.more.1);
    }
