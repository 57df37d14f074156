use Rattle.places.proofs.Common.{sym, subst, arith, range_with_len, IsListing}
use Rattle.places.proofs.Labelling.{first-listing}
use Rattle.places.proofs.links.Links.new.Goals as goal

pub returns : goal.returns
returns c =
    let h = c.loop-number.invariant in
    let many = h.many in
    let apart = c.gap_of-gap.ensures.apart in
    subst (λ f. IsListing c.loop-number.nodes.items 0 f (range_with_len 0 c.args.count)) (sym c.if_none-first.ensures)
    (first-listing c.loop-number.nodes.items c.args.count c.gap_of-gap.result (omega arith) (omega arith) (omega arith) (λ k lt. h.are k (omega arith)))
