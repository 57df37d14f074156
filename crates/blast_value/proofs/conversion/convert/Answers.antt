use Rattle.blast_value.proofs.Common.{map-kept, Keeps-trans}
use Rattle.blast_value.proofs.Effects.{cast_effect}
use Rattle.blast_value.proofs.conversion.convert.Goals as goal

pub returns-clause-effect : goal.returns-clause-effect
returns-clause-effect g c inputs admitted =
    let same = c.resized.ensures.same in
    let k2 = c.breaks_flags.ensures.adds.keeps in
    let k3 = c.or.ensures.adds.keeps in
    let now : g.C.State.admits c.resized.new.c inputs = rw same admitted in
    let at_2 = k2.admitted inputs now in
    let at_3 = k3.admitted inputs at_2 in
    let bits_kept = map-kept (Keeps-trans k2 k3) inputs now c.in_ok-bits.bits c.in_ok-bits.ensures.own in
    let number = c.in_ok-bits.ensures.number inputs admitted in
    let breaks = rw same at (c.in_ok-breaks.ensures.value inputs now) in
    let poison_kept = rw same at (k2.values inputs c.args.a.now.poison now (rw (← same) at c.requires.own.poison)) in
    rw bits_kept
    (cast_effect c.args.cast c.args.flags _ _ _ _ _ _ _ _ _ (c.zero.ensures.value inputs at_3) c.in_ok-bits.ensures.width number breaks
    (rw poison_kept at (c.in_ok-poison.ensures.value inputs at_2)))

pub breaks_flags-requires-clause-number : goal.breaks_flags-requires-clause-number
breaks_flags-requires-clause-number g c inputs admitted =
    let same = c.resized.ensures.same in
    rw same (rw same at (c.in_ok-bits.ensures.number inputs (rw same at admitted)))
