use Rattle.rule_reader.proofs.Common.{arith, ap, length, refl}
use Rattle.rule_reader.proofs.Building.{terms_ready, few_of_terms, more_terms, all_terms}
use Rattle.rule_reader.proofs.terms.target_terms.Goals as goal

pub loop-place-init : goal.loop-place-init
loop-place-init c = rw c.new-terms.ensures tt

pub add_op-requires-clause-place : goal.add_op-requires-clause-place
add_op-requires-clause-place c = let long = ap length c.as_slice-target.ensures in omega (arith, long)

pub add_op-requires-clause-ready : goal.add_op-requires-clause-ready
add_op-requires-clause-ready c =
    terms_ready c.args.rule.now c.requires.rule c.as_slice-target.result.now c.loop-place.place c.index-target-place.result c.requires.bound c.as_slice-target.ensures (omega arith) c.index-target-place.is

pub add_op-requires-clause-few : goal.add_op-requires-clause-few
add_op-requires-clause-few c =
    few_of_terms c.args.rule.now c.args.names.now c.as_slice-target.result.now c.loop-place.place c.index-target-place.result c.loop-place.terms c.requires.rule c.as_slice-target.ensures (omega arith) c.index-target-place.is (rw c.as_slice-target.ensures c.loop-place.invariant)

pub loop-place-preserved : goal.loop-place-preserved
loop-place-preserved c =
    let long = ap length c.as_slice-target.ensures in
    more_terms c.args.rule.now c.args.names.now c.args.rule.now.target c.loop-place.place c.index-target-place.result c.loop-place.terms _ (omega (arith, long)) (rw c.as_slice-target.ensures at c.index-target-place.is) c.loop-place.invariant c.in_ok-add_op.ensures.means

pub returns : goal.returns
returns c =
    let long = ap length c.as_slice-target.ensures in
    all_terms c.args.rule.now c.args.names.now c.args.rule.now.target c.loop-place.place c.loop-place.terms refl (omega (arith, long)) c.loop-place.invariant
