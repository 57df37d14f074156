use Rattle.ir_reader.proofs.Common.{◌<◌, ◌∙◌, length, ap, arith, then_some, slice_get_within, first_more_place, first_all_places, EntryPredHere}
use Rattle.ir_reader.proofs.EntryLemmas.{entry_here}
use Rattle.ir_reader.proofs.Places.{read_at, item_at}
use Rattle.ir_reader.proofs.entry.named_entry.Goals as goal

pub loop-place-preserved : goal.loop-place-preserved
loop-place-preserved c f preds =
    let raw = c.args.raw.now in
    let place = c.loop-place.place in
    let sets = c.args.predecessors.now in
    let first = c.index-predecessors-0.result in
    let block = c.block-item.result in
    let here = c.then_some.ensures ∙ ap (λ names. then_some names block.end_line) c.contains-names_first.ensures in
    first_more_place (EntryPredHere raw f) place c.loop-place.found c.then_some.result _ (c.loop-place.invariant f preds)
    (entry_here raw f sets preds first (read_at sets 0 first (omega arith) c.index-predecessors-0.is) place block (item_at c.as_slice-block-items.result.now raw.blocks place block c.as_slice-block-items.ensures (omega arith) c.block-item.is)
    c.then_some.result here)
    c.lesser-found.ensures

pub returns : goal.returns
returns c f preds =
    let raw = c.args.raw.now in
    first_all_places (EntryPredHere raw f) c.loop-place.place c.loop-place.found
    (λ b line (names, (w, at, on)). let within : b < length raw.blocks = slice_get_within raw.blocks b w at in omega (arith, ap length c.as_slice-block-items.ensures)) (c.loop-place.invariant f preds)
