-- Behind the check of repeated names come those of `check_uses`, and then those of classes.
use Rattle.rule_reader.proofs.Common.{err_from_is_err_and}
use Rattle.rule_reader.proofs.Checking.{clear_1, refused_duplicate, there_so_far, checked_so_far, classified_ok, classified_refused}
use Rattle.rule_reader.proofs.reader.checked.Goals as goal

pub returns-in-Some-clause-refused : goal.returns-in-Some-clause-refused
returns-in-Some-clause-refused c =
    refused_duplicate c.args.raw.now c.args.is_repeated c.in-Some.line c.refused.result c.refused.ensures c.in-Some.ensures

pub returns-in_err-check_uses-clause-refused : goal.returns-in_err-check_uses-clause-refused
returns-in_err-check_uses-clause-refused c =
    let p = err_from_is_err_and c.from_residual-in_err-check_uses.result c.from_residual-in_err-check_uses.ensures.1 in
    rw (p.1, p.2) (λ earlier marks. c.in_err-check_uses.ensures.refused earlier (clear_1 earlier c.args.raw.now (c.in_default.ensures earlier marks)))

pub resolved-requires-clause-bound : goal.resolved-requires-clause-bound
resolved-requires-clause-bound c =
    let raw = c.args.raw.now in
    there_so_far raw c.args.is_repeated (λ earlier marks. c.in_ok-check_uses.ensures.ok earlier (clear_1 earlier raw (c.in_default.ensures earlier marks)))

pub classified-requires : goal.classified-requires
classified-requires c =
    let raw = c.args.raw.now in
    checked_so_far raw c.args.is_repeated c.in_ok-rule.rule c.requires
    (λ earlier marks. c.in_ok-check_uses.ensures.ok earlier (clear_1 earlier raw (c.in_default.ensures earlier marks))) c.in_ok-rule.ensures

pub returns-clause-ok : goal.returns-clause-ok
returns-clause-ok c =
    let raw = c.args.raw.now in
    classified_ok raw c.args.is_repeated c.in_ok-rule.rule c.in_ok-classified.field-0
    (λ earlier marks. c.in_ok-check_uses.ensures.ok earlier (clear_1 earlier raw (c.in_default.ensures earlier marks)))
    c.in_ok-rule.ensures c.in_ok-classified.ensures.ok

pub returns-in_err-classified-clause-refused : goal.returns-in_err-classified-clause-refused
returns-in_err-classified-clause-refused c =
    let raw = c.args.raw.now in
    let p = err_from_is_err_and c.from_residual-in_err-classified.result c.from_residual-in_err-classified.ensures.1 in
    rw (p.1, p.2) (classified_refused raw c.args.is_repeated c.in_ok-rule.rule c.in_err-classified.field-0.0
    (λ earlier marks. c.in_ok-check_uses.ensures.ok earlier (clear_1 earlier raw (c.in_default.ensures earlier marks)))
    c.in_ok-rule.ensures c.in_err-classified.ensures.refused)
