use Rattle.readers.proofs.Common.{ℕ, ◌<◌, ◌∙◌, ap, sym, length, get_or, arith, Operand, substituted_operand, map_more}
use Rattle.readers.proofs.substituting.substituted_entries.Goals as goal

pub loop-entry-preserved : goal.loop-entry-preserved
loop-entry-preserved g c =
    let to = g.S.Substitute.to c.args.by.now in
    let l = c.loop-entry in
    let test = c.loop-entry-test.true in
    let same = l.auto.entry-items in
    let size = l.invariant.size in
    let within : l.entry-index < length l.entry-items = omega arith in
    map_more (λ e. (substituted_operand to e.0, e.1)) c.args.entries l.entry-index l.entry-items c.entry-item.result _ l.invariant within c.entry-item.is
    (ap (λ (r : Operand). (r, (get_or l.entry-items l.entry-index c.entry-item.result).1)) c.substituted_operand-entry.ensures ∙ ap (λ (e : Operand × ℕ). (substituted_operand to e.0, e.1)) (sym c.entry-item.is))
