use Rattle.rule_parse.proofs.Common.{err_from_is_err_and, codes, seen, taken-more, taken-fault, taken-done, taken-smaller, expression_at, rule_limits}
use Rattle.rule_parse.proofs.Expressions.{expression_shortens}
use Rattle.rule_parse.proofs.witness.more_expressions.Goals as goal

pub returns-in_err-expression : goal.returns-in_err-expression
returns-in_err-expression c =
    let p = err_from_is_err_and c.from_residual.result c.from_residual.ensures.1 in
    rw (p.1, p.2) (taken-fault (expression_at rule_limits c.args.line) (codes ",") c.loop-alloc.expressions (seen c.loop-alloc.tokens.now) (seen c.takes.new.tokens.now) c.takes.result _ c.in_err-expression.field-0.0 c.takes.ensures.next c.loop-alloc-test.true c.takes.ensures.goes c.in_err-expression.ensures c.loop-alloc.invariant)

pub loop-alloc-smaller : goal.loop-alloc-smaller
loop-alloc-smaller c =
    taken-smaller (expression_at rule_limits c.args.line) (expression_shortens rule_limits c.args.line) (codes ",") c.loop-alloc.expressions c.expression.new.expressions (seen c.loop-alloc.tokens.now) (seen c.takes.new.tokens.now) (seen c.expression.new.tokens.now) c.takes.result c.takes.ensures.next c.loop-alloc-test.true c.takes.ensures.goes c.in_ok-expression.ensures

pub loop-alloc-preserved : goal.loop-alloc-preserved
loop-alloc-preserved c =
    taken-more (expression_at rule_limits c.args.line) (expression_shortens rule_limits c.args.line) (codes ",") c.loop-alloc.expressions c.expression.new.expressions (seen c.loop-alloc.tokens.now) (seen c.takes.new.tokens.now) (seen c.expression.new.tokens.now) c.takes.result _ c.takes.ensures.next c.loop-alloc-test.true c.takes.ensures.goes c.in_ok-expression.ensures c.loop-alloc.invariant

pub returns : goal.returns
returns c =
    taken-done (expression_at rule_limits c.args.line) (codes ",") c.loop-alloc.expressions (seen c.loop-alloc.tokens.now) (seen c.takes.new.tokens.now) c.takes.result _ c.takes.ensures.next c.loop-alloc-test.false c.takes.ensures.goes c.loop-alloc.invariant
