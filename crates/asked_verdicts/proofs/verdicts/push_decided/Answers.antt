use Rattle.asked_verdicts.proofs.Common.{on_ok_weaker}
use Rattle.asked_verdicts.proofs.verdicts.push_decided.Goals as goal

pub returns-clause-pushed : goal.returns-clause-pushed
returns-clause-pushed c = on_ok_weaker c.push.result (λ is. (c.in_ok-row.row, is, c.in_ok-row.ensures.pair, c.in_ok-row.ensures.honest, c.in_ok-row.ensures.unrefuted)) c.push.ensures.ok
