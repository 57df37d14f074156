use Rattle.bindings.proofs.Common.{arith, AsksBitsOf, Name, Rule, fails, one_further, slice_get_within}
use Rattle.bindings.proofs.asking.ask_bits.Goals as goal

pub loop-rule-preserved : goal.loop-rule-preserved
loop-rule-preserved c =
    one_further (λ (rule : Rule). (r : Name) → ¬ AsksBitsOf rule r) c.args.rules.now c.loop-rule.rule-index c.rule-item.result c.rule-item.is
    (λ r asks. fails c.asks_bits.result c.asks_bits.ensures c.if-asks_bits.false (r, asks)) c.loop-rule.invariant

pub returns : goal.returns
returns c = (λ h. absurd cc, λ (i, rule, r, at, asks). absurd (c.loop-rule.invariant i rule (omega (arith, slice_get_within c.args.rules.now i rule at, c.loop-rule-test.false)) at r asks))
