use Rattle.blast_value.proofs.Common.{◌∙◌}
use Rattle.blast_value.proofs.Effects.{extreme_value}
use Rattle.blast_value.proofs.extreme.one_of_two.Goals as goal

pub returns-clause-value : goal.returns-clause-value
returns-clause-value g c inputs admitted =
    let width = c.in_ok-bits.ensures.width ∙ c.requires.width_a in
    let number = rw c.requires.width_a at (c.in_ok-bits.ensures.number inputs admitted) in
    extreme_value c.args.op c.args.flags c.args.width _ _ _ _ _ width number (c.zero.ensures.value inputs (c.chosen.ensures.adds.keeps.admitted inputs admitted))
