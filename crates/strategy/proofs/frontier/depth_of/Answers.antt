use Rattle.strategy.proofs.Common.{◌≤◌, arith, one_further, slice_get_within}
use Rattle.strategy.proofs.Searching.{IsSourceWithin, source_within_more}
use Rattle.strategy.proofs.frontier.depth_of.Goals as goal

pub loop-rule-init : goal.loop-rule-init
loop-rule-init c = λ r rule less at. absurd (omega arith)

pub loop-rule-preserved : goal.loop-rule-preserved
loop-rule-preserved c =
    let before : c.loop-rule.depth ≤ c.max-depth.result = omega (arith, c.max-depth.ensures) in
    let further : c.depth_in.result ≤ c.max-depth.result = omega (arith, c.max-depth.ensures) in
    one_further (IsSourceWithin c.max-depth.result) c.args.rules.now c.loop-rule.rule-index c.rule-item.result c.rule-item.is
    (source_within_more c.depth_in.result c.max-depth.result c.rule-item.result further (c.depth_in.ensures.source, c.depth_in.ensures.bits))
    (λ r rule less at. source_within_more c.loop-rule.depth c.max-depth.result rule before (c.loop-rule.invariant r rule less at))

pub returns : goal.returns
returns c r rule at = c.loop-rule.invariant r rule (omega (arith, slice_get_within c.args.rules.now r rule at, c.loop-rule-test.false)) at
