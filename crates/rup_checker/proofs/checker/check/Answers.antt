use Rattle.rup_checker.proofs.Common.{subst, ◌↔◌, IsTrue, LogFollows, Meets-log}
use Rattle.rup_checker.proofs.checker.check.Goals as goal

pub returns : goal.returns
returns c =
    let set = c.args.cnf.now in
    let log = c.args.log.now in
    let exact = subst (λ steps. IsTrue c.log_follows.result ↔ LogFollows set steps) c.as_slice-steps.ensures c.log_follows.ensures in
    record {
      follows = exact;
      model_meets_log = λ yes v meets. Meets-log set log v (exact.0 yes) meets;
    }
