use Rattle.rup_checker.proofs.Common.{subst, EndsEmpty, refuted_no_model}
use Rattle.rup_checker.proofs.checker.check_refutation.Goals as goal

pub returns-in_ok-check-clause-no_model : goal.returns-in_ok-check-clause-no_model
returns-in_ok-check-clause-no_model c =
    λ yes v. refuted_no_model c.args.cnf.now c.args.log.now (c.in_ok-check.ensures.follows.0 yes, subst EndsEmpty c.as_slice.ensures (c.ends_empty.ensures.0 c.if-ends_empty.true)) v
