use Rattle.bindings.proofs.Common.{below_more, holds, fails, MatchesAt}
use Rattle.bindings.proofs.check.operands_match.Goals as goal

pub returns-then-not-operand_matches_at : goal.returns-then-not-operand_matches_at
returns-then-not-operand_matches_at c =
    (λ h. absurd cc, λ all. absurd (fails c.operand_matches_at.result c.operand_matches_at.ensures c.if-not-operand_matches_at.true (all c.loop-index.index)))

pub loop-index-preserved : goal.loop-index-preserved
loop-index-preserved c =
    below_more (λ i. MatchesAt c.args.f.now c.args.binding.now c.args.op.now c.args.block c.args.place i) c.loop-index.index c.loop-index.invariant
    (holds c.operand_matches_at.result c.operand_matches_at.ensures c.if-not-operand_matches_at.false)
