use Rattle.rule_reader.proofs.Common.{ap, sym, ◌∙◌, arith, Some, map, get_or}
use Rattle.rule_reader.proofs.Looking.{equal_names, unequal_names, not_more, name_here}
use Rattle.rule_reader.proofs.registers.assigning.Goals as goal

pub returns-then-eq-clause-some : goal.returns-then-eq-clause-some
returns-then-eq-clause-some c =
    name_here c.args.statements.now c.loop-earlier.earlier _ (omega arith)
    ∙ ap (λ n. Some n) (sym c.as_slice.ensures ∙ equal_names _ _ _ c.eq.ensures c.if-eq.true)

pub loop-earlier-preserved : goal.loop-earlier-preserved
loop-earlier-preserved c =
    let d = c.index-statements-earlier.result in
    not_more (map (λ s. s.name) c.args.statements.now) c.loop-earlier.earlier (get_or c.args.statements.now c.loop-earlier.earlier d).name c.args.name.now
    (name_here c.args.statements.now c.loop-earlier.earlier d (omega arith))
    (λ e. unequal_names _ _ _ c.eq.ensures c.if-eq.false (c.as_slice.ensures ∙ e))
    c.loop-earlier.invariant
