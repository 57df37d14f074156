use Rattle.first_uip.proofs.Common.{◌≡◌, ◌+◌, ◌<◌, Some, length, set, refl, sym, subst, arith, slice_get, slice_get_read, Entry, IsPlaced}
use Rattle.first_uip.proofs.Marked.{IsPlaced-next}
use Rattle.first_uip.proofs.blocks.note_places.Goals as goal

pub loop-place-preserved : goal.loop-place-preserved
loop-place-preserved c =
    let trail = c.args.trail.now in
    let entries = trail.entries in
    let k = c.loop-place.place in
    let mid = c.loop-place.places in
    let e : Entry = c.index-entry.result.now in
    let within : k < length entries.items = omega (arith, c.loop-place-test.true, c.len-place-end.ensures, entries.ok.0) in
    let at : slice_get entries.items k ≡ Some e = slice_get_read entries.items (length entries.items) k e refl within c.index-entry.ensures in
    let room : e.literal.variable < length mid = omega (arith, (trail.fresh k e at).1, c.requires.size, c.loop-place.auto.places) in
    subst (λ n. IsPlaced (set mid n k) entries.items (k + 1)) (sym c.variable-variable.ensures)
    (IsPlaced-next trail.values.items entries.items mid k e trail.fresh at room c.loop-place.invariant)

pub returns : goal.returns
returns c =
    λ place e below at.
    let entries = c.args.trail.now.entries in
    c.loop-place.invariant place e (omega (arith, below, c.loop-place-test.false, c.len-place-end.ensures, entries.ok.0)) at
