use Rattle.verdict.proofs.Common.{subst, IsAttempt}
use Rattle.verdict.proofs.decision.verdict_by.Goals as goal

pub returns-in-Refuted-clause-honest : goal.returns-in-Refuted-clause-honest
returns-in-Refuted-clause-honest c =
    c.refusal.ensures.honest c.args.typing.now c.args.limit (subst (IsAttempt c.args.rule.now c.args.typing.now c.args.set c.args.limit) c.in-Refuted.is c.in_ok-searched.ensures)

pub returns-in-Refuted-clause-keeps : goal.returns-in-Refuted-clause-keeps
returns-in-Refuted-clause-keeps c = c.refusal.ensures.keeps c.args.set
