use Rattle.ir_reader.proofs.Common.{◌<◌, ◌∙◌, ℕ, get_or, length, ap, sym, arith, slice_get-get_or, slice_get_within, first_same, first_more_place, first_all_places, BadPhiHere, BadPhiAt}
use Rattle.ir_reader.proofs.Meaning.{same_count, insts_count}
use Rattle.ir_reader.proofs.Places.{seen_at}
use Rattle.ir_reader.proofs.PhiLemmas.{bad_in_seen}
use Rattle.ir_reader.proofs.phis.bad_phi.Goals as goal

pub bounds-written-place : goal.bounds-written-place
bounds-written-place c =
    let count = same_count c.args.raw.now c.args.f.now c.requires.means in
    omega (arith, ap length c.as_slice-written.ensures, ap length c.as_slice-blocks.ensures)

pub bad_phi_in-requires : goal.bad_phi_in-requires
bad_phi_in-requires c =
    let place = c.loop-place.place in
    let count = same_count c.args.raw.now c.args.f.now c.requires.means in
    let block = get_or c.as_slice-blocks.result.now place c.index-blocks-place.result in
    let w = get_or c.as_slice-written.result.now place c.index-written-place.result in
    let lt : place < length c.as_slice-blocks.result.now = omega arith in
    let w_lt : place < length c.as_slice-written.result.now = omega (arith, ap length c.as_slice-written.ensures, ap length c.as_slice-blocks.ensures) in
    ap length c.as_slice.ensures
    ∙ insts_count c.args.raw.now c.args.f.now c.requires.means place w block (seen_at c.as_slice-written.result.now c.args.raw.now.blocks place c.index-written-place.result c.as_slice-written.ensures w_lt)
    (seen_at c.as_slice-blocks.result.now c.args.f.now.blocks place c.index-blocks-place.result c.as_slice-blocks.ensures lt)
    ∙ sym (ap length c.as_slice-in-loop-place.ensures)

pub loop-place-preserved : goal.loop-place-preserved
loop-place-preserved c =
    let raw = c.args.raw.now in
    let f = c.args.f.now in
    let place = c.loop-place.place in
    let count = same_count raw f c.requires.means in
    let block = get_or c.as_slice-blocks.result.now place c.index-blocks-place.result in
    let w = get_or c.as_slice-written.result.now place c.index-written-place.result in
    let set = get_or c.args.predecessors.now place c.index-predecessors-place.result in
    let lt : place < length c.as_slice-blocks.result.now = omega arith in
    let w_lt : place < length c.as_slice-written.result.now = omega (arith, ap length c.as_slice-written.ensures, ap length c.as_slice-blocks.ensures) in
    let set_lt : place < length c.args.predecessors.now = omega (arith, c.requires.predecessors.count, ap length c.as_slice-blocks.ensures) in
    first_more_place (λ b line. (k : ℕ) × BadPhiHere raw f b k line) place c.loop-place.found c.in_ok-here.here _ c.loop-place.invariant
    (bad_in_seen raw f c.args.predecessors.now c.requires.predecessors place w block set
    (seen_at c.as_slice-written.result.now raw.blocks place c.index-written-place.result c.as_slice-written.ensures w_lt)
    (seen_at c.as_slice-blocks.result.now f.blocks place c.index-blocks-place.result c.as_slice-blocks.ensures lt)
    (slice_get-get_or c.args.predecessors.now place c.index-predecessors-place.result set_lt)
    c.in_ok-here.here _ c.as_slice.result.now c.as_slice-in-loop-place.result.now c.index-predecessors-place.is c.as_slice.ensures c.as_slice-in-loop-place.ensures c.in_ok-here.ensures)
    c.lesser-found.ensures

pub returns : goal.returns
returns c =
    let raw = c.args.raw.now in
    let f = c.args.f.now in
    first_same (λ line. (b : ℕ) × ((k : ℕ) × BadPhiHere raw f b k line)) (BadPhiAt raw f) (λ line (b, (k, here)). (b, k, here)) (λ line (b, k, here). (b, (k, here))) c.loop-place.found
    (first_all_places (λ b line. (k : ℕ) × BadPhiHere raw f b k line) c.loop-place.place c.loop-place.found
    (λ b line (k, ((inst, is, bad), on)). let within : b < length f.blocks = slice_get_within f.blocks b is.block is.is_block in omega (arith, ap length c.as_slice-blocks.ensures)) c.loop-place.invariant)
