use Rattle.strategy.proofs.Common.{inl, inr, refl, fails, holds}
use Rattle.strategy.proofs.frontier.look_at.Goals as goal

pub returns-then-not-stands : goal.returns-then-not-stands
returns-then-not-stands c = inr (fails c.stands.result c.stands.ensures c.if-not-stands.true, refl, refl)

pub returns : goal.returns
returns c = inl (holds c.stands.result c.stands.ensures c.if-not-stands.false, c.in_ok-found.ensures)
