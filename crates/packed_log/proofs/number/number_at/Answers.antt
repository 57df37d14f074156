use Rattle.packed_log.proofs.Common.{◌≡◌, ◌+◌, ◌-◌, ◌*◌, ap, get_or, rules, sym, ◌∙◌, arith}
use Rattle.packed_log.proofs.Numbers.{first_of_last, first_number-later, more_at, byte_before}
use Rattle.packed_log.proofs.number.number_at.Goals as goal
use Rattle.packed_log.proofs.number.number_at.Goals.{in-None, in-Some}

pub loop-place-init : goal.loop-place-init
loop-place-init c =
    let bytes = c.args.bytes.now in
    let count = c.args.count in
    let here : c.match-get.number ≡ get_or bytes count 0 = elim c.match-get.branch [ in-None w ↦ search rules | in-Some w ↦ search rules ] in
    here ∙ sym (first_of_last bytes count c.requires.stops)

pub overflow_mul-number : goal.overflow_mul-number
overflow_mul-number c =
    let bytes = c.args.bytes.now in
    let place = c.loop-place.place in
    omega (
      arith,
      byte_before bytes place c.args.count c.loop-place.number c.loop-place-test.true c.loop-place.auto.place c.requires.within c.requires.more c.loop-place.invariant,
      first_number-later bytes (place - 1) c.args.count (omega (arith, c.loop-place.auto.place)) c.requires.more,
      c.requires.few,
    )

pub overflow_sub-bytes : goal.overflow_sub-bytes
overflow_sub-bytes c =
    more_at c.args.bytes.now (c.loop-place.place - 1) c.args.count (omega (arith, c.loop-place-test.true, c.loop-place.auto.place)) c.requires.within c.requires.more

pub overflow_add-number : goal.overflow_add-number
overflow_add-number c =
    let bytes = c.args.bytes.now in
    let place = c.loop-place.place in
    omega (
      arith,
      c.from.ensures,
      byte_before bytes place c.args.count c.loop-place.number c.loop-place-test.true c.loop-place.auto.place c.requires.within c.requires.more c.loop-place.invariant,
      first_number-later bytes (place - 1) c.args.count (omega (arith, c.loop-place.auto.place)) c.requires.more,
      c.requires.few,
    )

pub loop-place-preserved : goal.loop-place-preserved
loop-place-preserved c =
    ap (λ n. 128 * c.loop-place.number + n) c.from.ensures
    ∙ byte_before c.args.bytes.now c.loop-place.place c.args.count c.loop-place.number c.loop-place-test.true c.loop-place.auto.place c.requires.within c.requires.more c.loop-place.invariant
