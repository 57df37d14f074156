use Rattle.rule_core.proofs.Common.{ℕ, ◌≡◌, ◌<◌, List, length, take, Some, refl, arith, get_or, slice_get, slice_get_read, Statement, Undefines, holding_source, shown}
use Rattle.rule_core.proofs.Givens.{Contains-take}
use Rattle.rule_core.proofs.Ready.{source_next, ValuesFit-push}
use Rattle.rule_core.proofs.Runs.{Follows-step-take}
use Rattle.rule_core.proofs.run.source_values.Goals as goal

-- the statement that the loop reads at k is the source's statement k
stands : (source slice : List Statement) (k : ℕ) (s : Statement) → slice ≡ source → k < length source → s ≡ get_or slice k s → slice_get source k ≡ Some s
stands source slice k s same within is = slice_get_read source (length source) k s refl within (rw same at is)

pub effect_of-requires : goal.effect_of-requires
effect_of-requires c =
    let at = stands c.args.rule.now.source c.as_slice.result.now c.loop-place.place c.index-as_slice-place.result c.as_slice.ensures (omega arith) c.index-as_slice-place.is in
    rw c.deref.ensures.value
    (source_next c.args.rule.now c.args.given.typing.now (take c.args.count c.args.rule.now.source) (shown c.args.given) c.args.inputs.now c.loop-place.values.items c.loop-place.place c.index-as_slice-place.result
    c.requires.rule c.requires.typing c.requires.given c.requires.inputs c.loop-place.invariant.fit c.loop-place.invariant.count at
    (Contains-take c.args.rule.now.source c.args.count c.loop-place.place c.index-as_slice-place.result (omega arith) at))

pub returns-in-Undefined : goal.returns-in-Undefined
returns-in-Undefined c =
    let at = stands c.args.rule.now.source c.as_slice.result.now c.loop-place.place c.index-as_slice-place.result c.as_slice.ensures (omega arith) c.index-as_slice-place.is in
    let gives = rw c.deref.ensures.value at c.in-Undefined.ensures.gives in
    c.loop-place.invariant.follows Undefines
    (Follows-step-take c.args.given.typing.now (shown c.args.given) holding_source c.args.rule.now.source c.args.count c.loop-place.place c.index-as_slice-place.result _ _ Undefines
    (omega arith) c.requires.count at gives refl)

pub loop-place-preserved : goal.loop-place-preserved
loop-place-preserved c =
    let at = stands c.args.rule.now.source c.as_slice.result.now c.loop-place.place c.index-as_slice-place.result c.as_slice.ensures (omega arith) c.index-as_slice-place.is in
    let gives = rw c.deref.ensures.value at c.in-Gives.ensures.gives in
    let items = c.in_ok-push-in-Gives.ensures.items in
    let last : slice_get c.args.rule.now.source (length c.loop-place.values.items) ≡ Some c.index-as_slice-place.result = rw c.loop-place.invariant.count at in
    record {
      count = omega (arith, c.in_ok-push-in-Gives.ensures.len, c.loop-place.invariant.count);
      fit = rw items (ValuesFit-push c.args.given.typing.now c.args.rule.now.source c.loop-place.values.items c.index-as_slice-place.result c.in-Gives.value
          c.loop-place.invariant.fit last c.in-Gives.ensures.width);
      follows = λ end rest.
          c.loop-place.invariant.follows end
          (Follows-step-take c.args.given.typing.now (shown c.args.given) holding_source c.args.rule.now.source c.args.count c.loop-place.place c.index-as_slice-place.result _ _ end
          (omega arith) c.requires.count at gives (rw items at rest));
    }
