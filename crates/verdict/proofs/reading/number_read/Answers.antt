use Rattle.verdict.proofs.Common.{◌≡◌, ◌+◌, ◌-◌, ◌*◌, ◌<◌, ◌≤◌, ℕ, zero, suc, Bool, true, false, List, [], ◌∷◌, length, drop, get_or, refl, add-one, arith, pow-succ', bit, number}
use Rattle.verdict.proofs.reading.number_read.Goals as goal

-- a bit in front of a number
one_more : (bits : List Bool) (i : ℕ) → i < length bits → number (drop i bits) ≡ bit (get_or bits i false) + 2 * number (drop (i + 1) bits)
one_more [] i lt = absurd (omega arith)
one_more (b ∷ bits) zero lt = refl
one_more (b ∷ bits) (suc i) lt = rw (add-one (suc i)) (rw (add-one i) at (one_more bits i (omega arith)))

small : (b : Bool) → bit b ≤ 1
small true = omega arith
small false = omega arith

pub loop-place-preserved : goal.loop-place-preserved
loop-place-preserved c =
    let place = c.loop-place.place in
    let before : place - 1 + 1 ≡ place = omega (arith, c.loop-place-test.true) in
    let more = rw before at (one_more c.args.bits.now (place - 1) (omega (arith, c.loop-place-test.true, c.loop-place.auto.place))) in
    let width : length c.args.bits.now - (place - 1) ≡ suc (length c.args.bits.now - place) = omega (arith, c.loop-place-test.true, c.loop-place.auto.place) in
    record {
      value = omega (arith, more, c.digit.ensures, c.loop-place.invariant.value);
      fits = rw (width, pow-succ' 2 (length c.args.bits.now - place)) (omega (arith, c.digit.ensures, small (get_or c.args.bits.now (place - 1) false), c.loop-place.invariant.fits));
    }
