use Rattle.draft_bits.proofs.Common.{arith, ap, ◌∙◌, ◌++◌, ◌∷◌, []}
use Rattle.draft_bits.proofs.Entries.{at_last, longer_itself, one_longer}
use Rattle.draft_bits.proofs.rows.lengthen.Goals as goal

pub loop-new-init : goal.loop-new-init
loop-new-init c = longer_itself c.args.facts.now c.len-had.result c.len-had.ensures

pub loop-new-preserved : goal.loop-new-preserved
loop-new-preserved c =
    one_longer c.loop-new._new c.args.facts.now c.loop-new.facts c.push.new.self c.loop-new.invariant
    (c.in_ok-push.ensures.ok ∙ ap (λ row. c.loop-new.facts.results ++ row ∷ []) c.new.ensures)

pub returns : goal.returns
returns c = at_last c.loop-new._new c.args.count c.args.facts.now c.loop-new.facts (omega arith) c.loop-new.invariant
