use Rattle.ir_resolve.proofs.Common.{◌≡◌, ◌<◌, List, length, map, take, sym, ap, ◌∙◌, arith, length-map, take_all, zip, slice_get_within, Entity, RepeatsHere, HasName, IsWrittenOn, seen, seen_written, known_by, knows}
use Rattle.ir_resolve.proofs.Firsts.{first_more_place, first_all_places}
use Rattle.ir_resolve.proofs.Keys.{length-keys}
use Rattle.ir_resolve.proofs.Tables.{known_behind, table_behind, repeats_behind, new_behind, none_of, entity}
use Rattle.ir_resolve.proofs.names.table.names.Goals as goal

pub bounds-keys-place : goal.bounds-keys-place
bounds-keys-place c = omega (arith, length-keys c.args.definitions.now c.args.keys.now c.requires)

pub loop-place-preserved : goal.loop-place-preserved
loop-place-preserved c =
    let ds = c.args.definitions.now in
    let keys = c.args.keys.now in
    let i = c.loop-place.place in
    let lt : i < length ds = omega arith in
    let old = knows (known_by c.loop-place.names) in
    let known = c.loop-place.invariant.known in
    let behind = c.in_ok-was_there.ensures in
    record {
      known = known_behind ds keys c.requires i _ lt old (knows (known_by c.define.new.names)) known behind.known;
      first = first_more_place (RepeatsHere HasName IsWrittenOn (map seen_written ds)) i c.loop-place.found c.repeated.result c.lesser-found.result c.loop-place.invariant.first
          (repeats_behind ds keys c.requires i _ lt _ old c.in_ok-was_there.was_there c.repeated.result known behind.was_there c.repeated.ensures)
          c.lesser-found.ensures;
      table = λ none.
          let (before, here) = none_of c.loop-place.found c.repeated.result (sym c.lesser-found.ensures ∙ none) in
          table_behind ds keys c.requires i _ lt _ (known_by c.loop-place.names) (known_by c.define.new.names) (c.loop-place.invariant.table before)
          (behind.added (new_behind ds keys c.requires i _ lt _ old c.in_ok-was_there.was_there c.repeated.result known behind.was_there c.repeated.ensures here));
    }

pub returns : goal.returns
returns c =
    let ds = c.args.definitions.now in
    let keys = c.args.keys.now in
    let i = c.loop-place.place in
    let es : List Entity = map (λ d. d.entity) ds in
    let all_ids : take i (map seen keys) ≡ map seen keys = take_all i (map seen keys) (omega (arith, length-map keys seen, length-keys ds keys c.requires)) in
    let all_es : take i es ≡ es = take_all i es (omega (arith, length-map ds entity)) in
    record {
      repeated = first_all_places (RepeatsHere HasName IsWrittenOn (map seen_written ds)) i c.loop-place.found
          (λ j line (w, name, w_at, has, before, on).
          let within : j < length (map seen_written ds) = slice_get_within (map seen_written ds) j w w_at in
          omega (arith, length-map ds seen_written))
          c.loop-place.invariant.first;
      names = λ none. c.loop-place.invariant.table none ∙ ap (λ ids. zip ids (take i es)) all_ids ∙ ap (zip (map seen keys)) all_es;
    }
