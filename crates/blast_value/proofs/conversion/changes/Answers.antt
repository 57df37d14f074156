use Rattle.blast_value.proofs.Common.{not, ap, ◌∙◌, number_of, number_below}
use Rattle.blast_value.proofs.Cuts.{extended_is}
use Rattle.blast_value.proofs.Moves.{asked_value}
use Rattle.blast_value.proofs.conversion.changes.Goals as goal

pub returns-clause-value : goal.returns-clause-value
returns-clause-value g c inputs admitted =
    let value = g.C.State.value c.args.c.now inputs in
    let same = c.extend.ensures.same in
    let now : g.C.State.admits c.extend.new.c inputs = rw same admitted in
    let top = c.sign_where-top.ensures.value inputs admitted in
    let longer = rw (top, c.len.ensures) at (c.in_ok-back.ensures.number inputs admitted) ∙ extended_is c.args.signed _ _ (number_of value c.args.cut.now) c.requires.some c.requires.narrower (number_below value c.args.cut.now) in
    let kept = rw same at (c.in_ok-same.ensures.value inputs now) in
    let is = c.not.ensures.value inputs (c.equal.ensures.adds.keeps.admitted inputs now) in
    asked_value c.args.asked _ _ c.if-not-asked.false (is ∙ ap not (rw (rw same at longer) at kept))
