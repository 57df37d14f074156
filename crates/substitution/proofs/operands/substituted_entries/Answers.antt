use Rattle.substitution.proofs.Common.{ℕ, ◌<◌, ◌∙◌, ap, sym, length, get_or, arith, Operand, stands_for, HasRoom, substituted_operand}
use Rattle.substitution.proofs.Mapping.{next_holds, map_more}
use Rattle.substitution.proofs.operands.substituted_entries.Goals as goal

pub substituted_operand-entry-requires : goal.substituted_operand-entry-requires
substituted_operand-entry-requires c =
    let l = c.loop-entry in
    let test = c.loop-entry-test.true in
    let same = l.auto.entry-items in
    let size = l.invariant.size in
    let within : l.entry-index < length l.entry-items = omega arith in
    next_holds (λ (e : Operand × ℕ). HasRoom c.args.rewrite.now e.0) (λ e. (substituted_operand (stands_for c.args.rewrite.now) e.0, e.1)) c.args.entries l.entry-index l.entry-items c.entry-item.result c.requires l.invariant within c.entry-item.is

pub loop-entry-preserved : goal.loop-entry-preserved
loop-entry-preserved c =
    let l = c.loop-entry in
    let test = c.loop-entry-test.true in
    let same = l.auto.entry-items in
    let size = l.invariant.size in
    let within : l.entry-index < length l.entry-items = omega arith in
    map_more (λ e. (substituted_operand (stands_for c.args.rewrite.now) e.0, e.1)) c.args.entries l.entry-index l.entry-items c.entry-item.result _ l.invariant within c.entry-item.is
    (ap (λ (r : Operand). (r, (get_or l.entry-items l.entry-index c.entry-item.result).1)) c.substituted_operand-entry.ensures ∙ ap (λ (e : Operand × ℕ). (substituted_operand (stands_for c.args.rewrite.now) e.0, e.1)) (sym c.entry-item.is))
