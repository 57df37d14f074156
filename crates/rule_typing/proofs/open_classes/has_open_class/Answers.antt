use Rattle.rule_typing.proofs.Common.{arith, below_more, refl, IsOpen}
use Rattle.rule_typing.proofs.Among.{holds, fails}
use Rattle.rule_typing.proofs.open_classes.has_open_class.Goals as goal

pub returns-then-is_open : goal.returns-then-is_open
returns-then-is_open c =
    (λ h. (c.loop-class.class, (c.requires c.loop-class.class).1 c.loop-class-test.true, holds c.is_open.result c.is_open.ensures c.if-is_open.true), λ h. refl)

pub loop-class-preserved : goal.loop-class-preserved
loop-class-preserved c = below_more (λ k. IsOpen c.args.rule.now k → ⊥) c.loop-class.class c.loop-class.invariant (fails c.is_open.result c.is_open.ensures c.if-is_open.false)

pub returns : goal.returns
returns c = (λ h. cc, λ (k, among, unnamed). absurd (c.loop-class.invariant k (let less = (c.requires k).0 among in omega arith) unnamed))
