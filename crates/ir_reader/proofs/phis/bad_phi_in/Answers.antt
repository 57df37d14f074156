use Rattle.ir_reader.proofs.Common.{◌<◌, get_or, length, arith, slice_get-get_or, slice_get_within, first_more_place, first_all_places, BadPhiIn}
use Rattle.ir_reader.proofs.PhiLemmas.{bad_here, phis_more}
use Rattle.ir_reader.proofs.phis.bad_phi_in.Goals as goal

pub loop-place-preserved : goal.loop-place-preserved
loop-place-preserved c =
    let set = c.args.predecessors.now in
    let insts = c.args.insts.now in
    let written = c.args.written.now in
    let place = c.loop-place.place in
    let only = c.loop-place.only_phis in
    let inst = get_or insts place c.index-insts-place.result in
    let w = get_or written place c.index-written-place.result in
    let here = slice_get-get_or insts place c.index-insts-place.result (omega arith) in
    let w_here = slice_get-get_or written place c.index-written-place.result (omega arith) in
    record {
      first = first_more_place (BadPhiIn set written insts) place c.loop-place.found c.then_some.result _ c.loop-place.invariant.first
          (bad_here set written insts place inst w here w_here only c.in_ok-fits.fits c.then_some.result c.loop-place.invariant.phis c.in_ok-fits.ensures c.then_some.ensures) c.lesser-found.ensures;
      phis = phis_more insts place inst only c.is_phi-only_phis.result here c.loop-place.invariant.phis c.is_phi-only_phis.ensures;
    }

pub returns : goal.returns
returns c =
    let insts = c.args.insts.now in
    first_all_places (BadPhiIn c.args.predecessors.now c.args.written.now insts) c.loop-place.place c.loop-place.found
    (λ j line ((inst, at, bad), on). let within : j < length insts = slice_get_within insts j inst at in omega arith) c.loop-place.invariant.first
