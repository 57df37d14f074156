use Rattle.rule_parse.proofs.Common.{◌≡◌, ◌≢◌, ◌∙◌, sym, length, arith, eqb-true, eqb-false, length-map, err_from_is_err_and, seen_token, seen, rule_limits}
use Rattle.rule_parse.proofs.Readings.{rule_at-shorter}
use Rattle.rule_parse.proofs.Loops.{rules-more, rules-fault, rules-done}
use Rattle.rule_parse.proofs.rule.rules.Goals as goal

pub returns-in_err-rule : goal.returns-in_err-rule
returns-in_err-rule c =
    let p = err_from_is_err_and c.from_residual.result c.from_residual.ensures.1 in
    let none : length c.loop-rest.rest.now ≢ 0 = eqb-false _ _ (sym c.is_empty.ensures ∙ c.loop-rest-test.true) in
    rw (p.1, p.2) (rules-fault rule_limits c.args.version c.loop-rest.rules.items c.args.last (seen c.loop-rest.rest.now) _ c.in_err-rule.field-0.0 (omega (arith, length-map c.loop-rest.rest.now seen_token)) c.in_err-rule.ensures c.loop-rest.invariant)

pub loop-rest-smaller : goal.loop-rest-smaller
loop-rest-smaller c = rule_at-shorter rule_limits c.args.version c.args.last (seen c.loop-rest.rest.now) (c.in_ok-rule.field-0, seen c.rule.new.tokens.now) c.in_ok-rule.ensures

pub loop-rest-preserved : goal.loop-rest-preserved
loop-rest-preserved c =
    let none : length c.loop-rest.rest.now ≢ 0 = eqb-false _ _ (sym c.is_empty.ensures ∙ c.loop-rest-test.true) in
    rw c.in_ok-push.ensures.items (rules-more rule_limits c.args.version c.loop-rest.rules.items c.args.last (seen c.loop-rest.rest.now) (c.in_ok-rule.field-0, seen c.rule.new.tokens.now) _ (omega (arith, length-map c.loop-rest.rest.now seen_token)) c.in_ok-rule.ensures c.loop-rest.invariant)

pub returns : goal.returns
returns c =
    let none : length c.loop-rest.rest.now ≡ 0 = eqb-true _ _ (sym c.is_empty.ensures ∙ c.loop-rest-test.false) in
    rules-done rule_limits c.args.version c.loop-rest.rules.items c.args.last (seen c.loop-rest.rest.now) _ (omega (arith, length-map c.loop-rest.rest.now seen_token)) c.loop-rest.invariant
