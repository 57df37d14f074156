use Rattle.rule_parse.proofs.Common.{◌<◌, [], ◌∷◌, length, arith, length-append, err_from_is_err_and, seen, rule_limits}
use Rattle.rule_parse.proofs.Loops.{statements-more, statements-fault, statements-full, statements-done}
use Rattle.rule_parse.proofs.rule.statements.Goals as goal

pub returns-then-len-eq-MOST_STATEMENTS : goal.returns-then-len-eq-MOST_STATEMENTS
returns-then-len-eq-MOST_STATEMENTS c =
    rw c.refused.ensures
    (statements-full rule_limits c.args.version 32 c.loop-line.statements c.args.half c.in-Some.line c.in-Some.name.now (seen c.loop-line.tokens.now) _ _ c.in-Some.ensures.some (omega arith) c.loop-line.invariant.1)

pub returns-in_err-statement : goal.returns-in_err-statement
returns-in_err-statement c =
    let p = err_from_is_err_and c.from_residual.result c.from_residual.ensures.1 in
    rw (p.1, p.2) (statements-fault rule_limits c.args.version 32 c.loop-line.statements c.args.half c.in-Some.line c.in-Some.name.now (seen c.loop-line.tokens.now) _ _ c.in_err-statement.field-0.0 c.in-Some.ensures.some (omega arith) c.in_err-statement.ensures c.loop-line.invariant.1)

pub loop-line-preserved : goal.loop-line-preserved
loop-line-preserved c =
    let room : length c.loop-line.statements < 32 = omega arith in
    rw c.in_ok-push.ensures.ok (
      omega (arith, length-append c.loop-line.statements (c.in_ok-statement.field-0 ∷ [])),
      statements-more rule_limits c.args.version 32 c.loop-line.statements c.args.half c.in-Some.line c.in-Some.name.now (seen c.loop-line.tokens.now) _ (c.in_ok-statement.field-0, seen c.statement.new.tokens.now) _ c.in-Some.ensures.some room c.in_ok-statement.ensures c.loop-line.invariant.1,
    )

pub returns : goal.returns
returns c =
    statements-done rule_limits c.args.version c.loop-line.statements _ c.args.half (seen c.loop-line.tokens.now) _ _ c.in_default.ensures.none c.in_default.ensures.stays c.loop-line.invariant.1
