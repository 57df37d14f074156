use Rattle.rule_core.proofs.Common.{ℕ, ◌≡◌, ◌<◌, List, length, Some, refl, ap, arith, get_or, slice_get, slice_get_read, Statement, Undefines, holding_target, shown}
use Rattle.rule_core.proofs.Ready.{target_next, ValuesFit-push}
use Rattle.rule_core.proofs.Runs.{Follows-step}
use Rattle.rule_core.proofs.run.target_values.Goals as goal

-- the statement that the loop reads at k is the target's statement k
stands : (target slice : List Statement) (k : ℕ) (s : Statement) → slice ≡ target → k < length target → s ≡ get_or slice k s → slice_get target k ≡ Some s
stands target slice k s same within is = slice_get_read target (length target) k s refl within (rw same at is)

pub effect_of-requires : goal.effect_of-requires
effect_of-requires c =
    let at = stands c.args.rule.now.target c.as_slice-statement-items.result.now c.loop-statement.statement-index c.statement-item.result c.as_slice-statement-items.ensures (omega (arith, ap length c.as_slice-statement-items.ensures)) c.statement-item.is in
    rw c.deref.ensures.value
    (target_next c.args.rule.now c.args.given.typing.now (shown c.args.given) c.args.inputs.now c.args.source.now c.loop-statement.values.items c.loop-statement.statement-index c.statement-item.result
    c.requires.rule c.requires.typing c.requires.given c.requires.inputs c.requires.source c.loop-statement.invariant.fit c.requires.count c.loop-statement.invariant.count at)

pub returns-in-Undefined : goal.returns-in-Undefined
returns-in-Undefined c =
    let at = stands c.args.rule.now.target c.as_slice-statement-items.result.now c.loop-statement.statement-index c.statement-item.result c.as_slice-statement-items.ensures (omega (arith, ap length c.as_slice-statement-items.ensures)) c.statement-item.is in
    let gives = rw c.deref.ensures.value at c.in-Undefined.ensures.gives in
    c.loop-statement.invariant.follows Undefines
    (Follows-step c.args.given.typing.now (shown c.args.given) holding_target c.args.rule.now.target c.loop-statement.statement-index c.statement-item.result _ _ Undefines
    (omega (arith, ap length c.as_slice-statement-items.ensures)) (rw c.as_slice-statement-items.ensures at c.statement-item.is) gives refl)

pub loop-statement-preserved : goal.loop-statement-preserved
loop-statement-preserved c =
    let at = stands c.args.rule.now.target c.as_slice-statement-items.result.now c.loop-statement.statement-index c.statement-item.result c.as_slice-statement-items.ensures (omega (arith, ap length c.as_slice-statement-items.ensures)) c.statement-item.is in
    let gives = rw c.deref.ensures.value at c.in-Gives.ensures.gives in
    let items = c.in_ok-push-in-Gives.ensures.items in
    let last : slice_get c.args.rule.now.target (length c.loop-statement.values.items) ≡ Some c.statement-item.result = rw c.loop-statement.invariant.count at in
    record {
      count = omega (arith, c.in_ok-push-in-Gives.ensures.len, c.loop-statement.invariant.count);
      fit = rw items (ValuesFit-push c.args.given.typing.now c.args.rule.now.target c.loop-statement.values.items c.statement-item.result c.in-Gives.value
          c.loop-statement.invariant.fit last c.in-Gives.ensures.width);
      follows = λ end rest.
          c.loop-statement.invariant.follows end
          (Follows-step c.args.given.typing.now (shown c.args.given) holding_target c.args.rule.now.target c.loop-statement.statement-index c.statement-item.result _ _ end
          (omega (arith, ap length c.as_slice-statement-items.ensures)) (rw c.as_slice-statement-items.ensures at c.statement-item.is) gives (rw items at rest));
    }
