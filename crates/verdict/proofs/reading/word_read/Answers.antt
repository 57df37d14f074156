use Rattle.verdict.proofs.Common.{◌≡◌, length, refl, mod-eq_of_lt, map-id}
use Rattle.verdict.proofs.reading.word_read.Goals as goal

pub returns : goal.returns
returns c =
    let width : c.in-Some.width ≡ length c.args.bits.now = c.in-Some.ensures.width in
    let small = mod-eq_of_lt c.number_read.ensures.fits in
    rw (c.wrapped.ensures, width, small, c.number_read.ensures.number, map-id) refl
