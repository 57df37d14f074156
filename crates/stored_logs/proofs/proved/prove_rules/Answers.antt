use Rattle.stored_logs.proofs.Proving.{next_rule}
use Rattle.stored_logs.proofs.proved.prove_rules.Goals as goal

pub loop-place-preserved : goal.loop-place-preserved
loop-place-preserved c =
    next_rule c.args.widths.now c.args.conflicts c.args.rules.now c.loop-place.place c.index-rules-place.result c.loop-place.proved c.push_rule.new.proved c.loop-place-test.true c.index-rules-place.is c.loop-place.invariant c.in_ok-push_rule.ensures
