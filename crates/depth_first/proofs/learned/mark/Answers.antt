use Rattle.depth_first.proofs.Common.{◌≡◌, ◌+◌, ◌<◌, true, Some, length, take, get_or, set, sym, ap, ◌∙◌, subst, arith, length-set, slice_get, slice_get-get_or, Lit, Marks}
use Rattle.depth_first.proofs.Involved.{Marks-next}
use Rattle.depth_first.proofs.learned.mark.Goals as goal

pub loop-literal-preserved : goal.loop-literal-preserved
loop-literal-preserved c =
    let clause = c.args.clause.now in
    let k = c.loop-literal.literal-index in
    let old = c.args.marked.now.items in
    let mid = c.loop-literal.marked.items in
    let l : Lit = c.literal-item.result in
    let at : slice_get clause k ≡ Some l = slice_get-get_or clause k l c.loop-literal-test.true ∙ ap Some (sym c.literal-item.is) in
    let within : (get_or clause k l).variable < length old = c.requires k l c.loop-literal-test.true in
    let room : l.variable < length mid =
    omega (arith, within, ap (λ (m : Lit). m.variable) c.literal-item.is, c.loop-literal.invariant.size) in
    record {
      size = omega (arith, length-set mid c.variable.result true, c.loop-literal.invariant.size);
      marks =
          subst (λ n. Marks (take (k + 1) clause) old (set mid n true)) (sym c.variable.ensures)
          (Marks-next clause old mid k l at room c.loop-literal.invariant.marks);
    }
