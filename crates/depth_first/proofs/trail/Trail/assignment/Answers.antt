use Rattle.depth_first.proofs.Common.{◌≡◌, ◌+◌, ◌-◌, ◌<◌, None, Bool, length, get_or, map, take, drop, ◌++◌, ◌∷◌, [], sym, ap, ◌∙◌, arith, length-drop, get_or-drop, map_more, get_or_read, value_or_false}
use Rattle.depth_first.proofs.trail.Trail.assignment.Goals as goal

pub loop-variable-preserved : goal.loop-variable-preserved
loop-variable-preserved c =
    let items = c.args.self.now.values.items in
    let n = c.loop-variable.variable in
    let rest = drop 1 items in
    let within : n - 1 < length rest = omega (arith, length-drop 1 items) in
    let next : n + 1 - 1 ≡ n - 1 + 1 = omega arith in
    let place : 1 + (n - 1) ≡ n = omega arith in
    let here : get_or rest (n - 1) None ≡ c.index.result.now =
    get_or-drop 1 items (n - 1) None ∙ ap (λ k. get_or items k None) place ∙ sym (get_or_read items n c.index.result.now (omega arith) c.index.ensures None) in
    let value : c.unwrap_or.result ≡ value_or_false (get_or rest (n - 1) None) =
    c.unwrap_or.ensures ∙ ap value_or_false (sym here) in
    c.in_ok-push.ensures.ok
    ∙ ap (λ values. values ++ c.unwrap_or.result ∷ []) c.loop-variable.invariant
    ∙ ap (λ (v : Bool). map value_or_false (take (n - 1) rest) ++ v ∷ []) value
    ∙ sym (map_more value_or_false rest (n - 1) None within)
    ∙ ap (λ k. map value_or_false (take k rest)) (sym next)
