use Rattle.ir_resolve.proofs.Common.{◌<◌, map, length, arith, length-map, slice_get_within, MisnumbersHere, seen_written}
use Rattle.ir_resolve.proofs.Firsts.{first_more_place, first_all_places}
use Rattle.ir_resolve.proofs.Keys.{length-keys, misnumbered_here}
use Rattle.ir_resolve.proofs.names.series.misnumbered.Goals as goal

pub bounds-keys-place : goal.bounds-keys-place
bounds-keys-place c = omega (arith, length-keys c.args.definitions.now c.args.keys.now c.requires)

pub loop-place-preserved : goal.loop-place-preserved
loop-place-preserved c =
    let ds = c.args.definitions.now in
    let i = c.loop-place.place in
    first_more_place (MisnumbersHere (map seen_written ds)) i _ _ _ c.loop-place.invariant
    (misnumbered_here ds c.args.keys.now c.requires i _ _ (omega arith) c.number_fault.result c.number_fault.ensures)
    c.lesser-found.ensures

pub returns : goal.returns
returns c =
    let ds = c.args.definitions.now in
    first_all_places (MisnumbersHere (map seen_written ds)) c.loop-place.place c.loop-place.found
    (λ j line (w, x, w_at, x_at, mis).
    let within : j < length (map seen_written ds) = slice_get_within (map seen_written ds) j w w_at in
    omega (arith, length-map ds seen_written))
    c.loop-place.invariant
