use Rattle.draft.proofs.Common.{◌∙◌, ℕ, List, ap, get_or, arith, get_or_default, slice_get-get_or, slice_get_within}
use Rattle.draft.proofs.Placed.{place_kept}
use Rattle.draft.proofs.placing.places_in.Goals as goal

pub index_mut-requires : goal.index_mut-requires
index_mut-requires c =
    let l = c.loop-place in
    let size = l.invariant.size in
    let fresh = l.places.ok.0 in
    let below = c.requires.ordered.below l.place (get_or c.args.numbers.now l.place 0) (slice_get-get_or c.args.numbers.now l.place 0 c.loop-place-test.true) in
    omega arith

pub loop-place-preserved : goal.loop-place-preserved
loop-place-preserved c =
    let l = c.loop-place in
    let n = get_or c.args.numbers.now l.place 0 in
    place_kept c.args.count c.args.numbers.now l.place l.places.items n l.invariant c.requires.ordered c.loop-place-test.true (get_or_default c.args.numbers.now l.place 0 n c.loop-place-test.true)

pub returns : goal.returns
returns c = λ k n at.
    let within = slice_get_within c.args.numbers.now k n at in
    let past = c.loop-place-test.false in
    ap (λ (l : List ℕ). get_or l n 0) c.from_vec.ensures ∙ c.loop-place.invariant.done k n (omega arith) at
