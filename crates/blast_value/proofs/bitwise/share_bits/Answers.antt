use Rattle.blast_value.proofs.Common.{not, ap, ◌∙◌}
use Rattle.blast_value.proofs.bitwise.share_bits.Goals as goal

pub returns-clause-value : goal.returns-clause-value
returns-clause-value g c inputs admitted =
    let at_1 = c.each_bit.ensures.adds.keeps.admitted inputs admitted in
    let both = rw (c.as_slice.ensures, c.as_slice-2.ensures) at (c.in_ok-both.ensures.number inputs admitted) in
    let is = c.not.ensures.value inputs (c.equals.ensures.adds.keeps.admitted inputs at_1) in
    is ∙ ap not (rw both at (c.in_ok-none.ensures.value inputs at_1))
