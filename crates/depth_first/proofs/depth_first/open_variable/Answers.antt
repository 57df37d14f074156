use Rattle.depth_first.proofs.Common.{◌≡◌, true, not, sym, ap, ◌∙◌, subst, arith, inl, inr, cases_order, literal_of, is_held, literals, IsSet}
use Rattle.depth_first.proofs.Options.{IfSome_at}
use Rattle.depth_first.proofs.depth_first.open_variable.Goals as goal

pub loop-variable-preserved : goal.loop-variable-preserved
loop-variable-preserved c =
    λ n first below.
    let held = literals c.args.trail.now.entries.items in
    let k = c.loop-variable.variable in
    let here : IsSet held k =
    IfSome_at c.value.result (λ value. is_held held (literal_of k value) ≡ true) (c.is_none.ensures ∙ ap not c.if-is_none.false) c.value.ensures.set in
    elim (cases_order n k) [
      | inl same ↦ subst (IsSet held) (sym same) here
      | inr (inl less) ↦ c.loop-variable.invariant n first less
      | inr (inr more) ↦ absurd (omega arith)
    ]
