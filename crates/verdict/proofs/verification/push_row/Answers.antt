use Rattle.verdict.proofs.Common.{refl}
use Rattle.verdict.proofs.Findings.{one_row}
use Rattle.verdict.proofs.verification.push_row.Goals as goal

pub returns : goal.returns
returns c =
    one_row c.args.conflicts c.args.place c.args.rule.now c.args.typing c.in_ok-verdict.verdict c.is_admitted.result c.args.verified.now _ c.in_ok-verdict.ensures.honest c.is_admitted.ensures c.in_ok-push.ensures.ok c.in_ok-push_verdict.ensures refl
