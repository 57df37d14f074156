use Rattle.run_text.proofs.Common.{◌≡◌, ◌∙◌, List, Some, length, map, ap, inr, arith, Value}
use Rattle.run_text.proofs.ArgumentLemmas.{said_more, said_none, all_said}
use Rattle.run_text.proofs.argument.values_said.Goals as goal

pub returns-in-None-clause-unfit : goal.returns-in-None-clause-unfit
returns-in-None-clause-unfit c _ =
    let count : length c.args.words.now ≡ length c.args.parameters.now = omega arith in
    inr (said_none c.args.parameters.now c.args.words.now c.loop-place.place c.index-parameters-place.result _ count c.loop-place-test.true c.index-parameters-place.is c.value_said.result c.value_said.ensures c.in-None.is)

pub loop-place-preserved : goal.loop-place-preserved
loop-place-preserved c =
    let count : length c.args.words.now ≡ length c.args.parameters.now = omega arith in
    ap (λ (values : List Value). map (λ u. Some u) values) c.in_ok-push-in-Some.ensures.ok
    ∙ said_more c.args.parameters.now c.args.words.now c.loop-place.place c.index-parameters-place.result _ count c.loop-place-test.true c.index-parameters-place.is c.loop-place.values c.in-Some.value c.value_said.result c.value_said.ensures c.in-Some.is c.loop-place.invariant

pub returns-clause-said : goal.returns-clause-said
returns-clause-said c =
    let count : length c.args.words.now ≡ length c.args.parameters.now = omega arith in
    all_said c.args.parameters.now c.args.words.now c.loop-place.values c.loop-place.place count c.loop-place-test.false c.loop-place.invariant
