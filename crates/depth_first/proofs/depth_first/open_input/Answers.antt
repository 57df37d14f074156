use Rattle.depth_first.proofs.Common.{◌≡◌, ◌<◌, ◌≤◌, true, not, length, get_or, ap, ◌∙◌, subst, arith, All, take_all, All-more, literal_of, is_held, literals, IsSet}
use Rattle.depth_first.proofs.Options.{IfSome_at}
use Rattle.depth_first.proofs.depth_first.open_input.Goals as goal

pub loop-variable-preserved : goal.loop-variable-preserved
loop-variable-preserved c =
    let held = literals c.args.trail.now.entries.items in
    let inputs = c.args.cnf.now.inputs in
    let k = c.loop-variable.variable-index in
    let is : c.as_slice-variable-items.result.now ≡ inputs = c.as_slice-variable-items.ensures in
    let within : k < length inputs = omega (arith, c.loop-variable-test.true, ap length is) in
    let here : IsSet held (get_or c.as_slice-variable-items.result.now k 0) =
    IfSome_at c.value.result (λ value. is_held held (literal_of (get_or c.as_slice-variable-items.result.now k 0) value) ≡ true)
    (c.is_none.ensures ∙ ap not c.if-is_none.false) c.value.ensures.set in
    All-more (IsSet held) inputs k 0 within c.loop-variable.invariant
    (subst (λ ns. IsSet held (get_or ns k 0)) is here)

pub returns-clause-none : goal.returns-clause-none
returns-clause-none c =
    let held = literals c.args.trail.now.entries.items in
    let inputs = c.args.cnf.now.inputs in
    let is : c.as_slice-variable-items.result.now ≡ inputs = c.as_slice-variable-items.ensures in
    let past : length inputs ≤ c.loop-variable.variable-index = omega (arith, c.loop-variable-test.false, ap length is) in
    subst (All (IsSet held)) (take_all c.loop-variable.variable-index inputs past) c.loop-variable.invariant
