use Rattle.blast_rule.proofs.Common.{length, ap, ◌∙◌}
use Rattle.blast_rule.proofs.Freezes.{frozen-word}
use Rattle.blast_rule.proofs.freeze.frozen.Goals as goal

pub returns-clause-value : goal.returns-clause-value
returns-clause-value g c = λ inputs admitted.
    let m = g.C.State in
    frozen-word (m.value c.args.c.now inputs) (m.value c.select.new.c inputs) c.args.held.now c.args.choice.now c.in_ok-bits.bits c.zero.result c.requires.same_width
    (c.zero.ensures.value inputs (c.select.ensures.adds.keeps.admitted inputs admitted))
    (c.in_ok-bits.ensures.width ∙ ap length c.as_slice.ensures)
    (rw (c.as_slice.ensures, c.as_slice-2.ensures) at (c.in_ok-bits.ensures.values inputs admitted))
