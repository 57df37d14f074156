use Rattle.depth_first.proofs.Common.{◌≡◌, ◌+◌, ◌*◌, ◌<◌, true, not, Some, length, set, sym, ap, ◌∙◌, Bool, Option, subst, arith, length-set, ◌++◌, ◌∷◌, [], List, length_push, Entry, code_of, IsTableOf, IsHeldTable, EachFresh, open_count}
use Rattle.depth_first.proofs.HeldTable.{IsHeldTable-push, code_within}
use Rattle.depth_first.proofs.TrailTable.{IsTableOf-push, EachFresh-push, open_count-push}
use Rattle.depth_first.proofs.trail.Trail.push.Goals as goal

pub invariant_of-self-2 : goal.invariant_of-self-2
invariant_of-self-2 c =
    let trail = c.args.self.now in
    let values = trail.values.items in
    let entries = trail.entries.items in
    let e = c.args.entry in
    let n = e.literal.variable in
    let values' = set values n (Some (not e.literal.negated)) in
    let is : set values c.variable-place.result (Some (not c.is_negated-value.result)) ≡ values' =
    ap (λ k. set values k (Some (not c.is_negated-value.result))) c.variable-place.ensures ∙ ap (λ b. set values n (Some (not b))) c.is_negated-value.ensures in
    let within : code_of e.literal < length trail.held.items = code_within e.literal (length values) (length trail.held.items) c.requires.last trail.codes in
    let marks : set trail.held.items (code_of e.literal) true ≡ set trail.held.items c.code_of-code.result true = ap (λ k. set trail.held.items k true) (sym c.code_of-code.ensures) in
    let pushed : c.push.new.self.items ≡ entries ++ e ∷ [] = c.in_ok-push.ensures.items in
    record {
      table =
          subst (λ vs. IsTableOf vs c.push.new.self.items) (sym is)
          (subst (IsTableOf values') (sym pushed) (IsTableOf-push values entries e trail.table c.requires.last c.requires.open));
      codes = ap length (sym marks) ∙ length-set trail.held.items (code_of e.literal) true ∙ trail.codes ∙ ap (λ k. 2 * k) (sym (length-set values n (Some (not e.literal.negated)))) ∙ ap (λ (vs : List (Option Bool)). 2 * length vs) (sym is);
      marked = subst (λ marks. IsHeldTable marks c.push.new.self.items) marks
          (subst (IsHeldTable (set trail.held.items (code_of e.literal) true)) (sym pushed) (IsHeldTable-push trail.held.items entries e trail.marked within));
      fresh =
          subst (λ vs. EachFresh vs c.push.new.self.items) (sym is)
          (subst (EachFresh values') (sym pushed) (EachFresh-push values entries e (Some (not e.literal.negated)) trail.fresh c.requires.first c.requires.last c.requires.open));
      counted =
          subst (λ (vs : List (Option Bool)). open_count vs + length c.push.new.self.items ≡ length vs) (sym is)
          (subst (λ (es : List Entry). open_count values' + length es ≡ length values') (sym pushed)
          (omega (
            arith,
            trail.counted,
            length_push entries e,
            length-set values n (Some (not e.literal.negated)),
            open_count-push values entries n (not e.literal.negated) trail.table c.requires.last c.requires.open,
          )));
    }
