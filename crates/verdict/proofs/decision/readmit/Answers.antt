use Rattle.verdict.proofs.Common.{◌≡◌, false, rules, IsRefutation}
use Rattle.verdict.proofs.Chain.{valid_without_model}
use Rattle.verdict.proofs.Proved.{not_refuted, keeps_unrefuted}
use Rattle.verdict.proofs.decision.readmit.Goals as goal

pub returns-then-branch-clause-honest : goal.returns-then-branch-clause-honest
returns-then-branch-clause-honest c =
    valid_without_model c.args.rule.now c.args.typing.now c.in_ok-set.set c.in_ok-set.ensures c.rules_without_counterexample_read_are_valid.ensures
    c.requires.rule c.requires.typing (c.in_ok-check_refutation.ensures.no_model c.if-branch.true)

pub returns-clause-unrefuted : goal.returns-clause-unrefuted
returns-clause-unrefuted c =
    let failed : c.in_ok-check_refutation.field-0 ≡ false = search rules in
    keeps_unrefuted c.verdict_by.result c.in_ok-set.set c.args.log.now
    (not_refuted c.in_ok-check_refutation.field-0 (IsRefutation c.in_ok-set.set c.args.log.now) c.in_ok-check_refutation.ensures.refutes failed) c.verdict_by.ensures.keeps
