use Rattle.proof_text.proofs.Common.{false, rules, Clauses, Literals, Takes}
use Rattle.proof_text.proofs.Readings.{passes}
use Rattle.proof_text.proofs.StepReadings.{clause_stops}
use Rattle.proof_text.proofs.clause.clause.Goals as goal

pub returns-in_err-literal-clause-stop : goal.returns-in_err-literal-clause-stop
returns-in_err-literal-clause-stop c =
    let t : Takes 58 false c.loop-clause.rest.now c.takes.new.rest.now = search rules in
    passes c.from_residual.result _ Clauses Literals _ _ _ (clause_stops c.args.rest.now.now c.loop-clause.rest.now c.takes.new.rest.now _ _ c.loop-clause.invariant t.0 t.1) c.from_residual.ensures c.in_err-literal.ensures.stop
