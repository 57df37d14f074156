use Rattle.verdict.proofs.Chain.{valid_without_model}
use Rattle.verdict.proofs.decision.check_again.Goals as goal

pub returns : goal.returns
returns c =
    valid_without_model c.args.rule.now c.args.typing.now c.args.set.now c.requires.stands c.rules_without_counterexample_read_are_valid.ensures
    c.requires.rule c.requires.typing (c.in_ok-check_refutation.ensures.no_model c.if-not-branch.false)
