use Rattle.blast_value.proofs.Common.{not, ap, ◌∙◌, map-kept}
use Rattle.blast_value.proofs.Moves.{asked_value}
use Rattle.blast_value.proofs.shift.loses.Goals as goal

pub returns-clause-value : goal.returns-clause-value
returns-clause-value g c inputs admitted =
    let k1 = c.shift_right.ensures.adds.keeps in
    let at_1 = k1.admitted inputs admitted in
    let before_kept = map-kept k1 inputs admitted c.args.before.now c.requires.own_before in
    let top = rw c.requires.width at (c.sign_where-top.ensures.value inputs admitted) in
    let same = c.in_ok-same.ensures.value inputs at_1 in
    let is = c.not.ensures.value inputs (c.equal.ensures.adds.keeps.admitted inputs at_1) in
    asked_value c.args.asked _ _ c.if-not-asked.false (is ∙ ap not (rw (c.in_ok-back.ensures.number inputs admitted, top, before_kept, c.requires.width) at same))
