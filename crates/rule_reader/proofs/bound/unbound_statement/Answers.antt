use Rattle.rule_reader.proofs.Common.{arith, ap, length, StatementUnbound, half_of, place_in, OpIsBound, subst}
use Rattle.rule_reader.proofs.Firsts.{first_here, first_none, none_more}
use Rattle.rule_reader.proofs.Looking.{says, denies}
use Rattle.rule_reader.proofs.Building.{place_within, half_in_order, item_at}
use Rattle.rule_reader.proofs.bound.unbound_statement.Goals as goal

pub op_is_bound-requires-clause-place : goal.op_is_bound-requires-clause-place
op_is_bound-requires-clause-place c =
    let long = ap length c.of-statements.ensures in
    rw c.place.ensures (place_within c.args.rule.now c.args.half c.loop-place.place (omega (arith, long)))

pub returns-then-not-op_is_bound : goal.returns-then-not-op_is_bound
returns-then-not-op_is_bound c =
    let raw = c.args.rule.now in
    let half = c.args.half in
    let k = c.loop-place.place in
    let s = c.index-statements-place.result in
    let at = item_at raw half c.of-statements.result.now k s c.of-statements.ensures (omega arith) c.index-statements-place.is in
    first_here (half_of half raw) (StatementUnbound raw (place_in half)) k s (half_in_order raw half c.requires.rule) c.loop-place.invariant at
    (subst (λ p. ¬ OpIsBound raw p s.op) c.place.ensures (denies _ _ c.op_is_bound.ensures c.if-not-op_is_bound.true))

pub loop-place-preserved : goal.loop-place-preserved
loop-place-preserved c =
    let raw = c.args.rule.now in
    let half = c.args.half in
    let k = c.loop-place.place in
    let s = c.index-statements-place.result in
    let at = item_at raw half c.of-statements.result.now k s c.of-statements.ensures (omega arith) c.index-statements-place.is in
    none_more (half_of half raw) (StatementUnbound raw (place_in half)) k s c.loop-place.invariant at
    (λ not. not (subst (λ p. OpIsBound raw p s.op) c.place.ensures (says _ _ c.op_is_bound.ensures c.if-not-op_is_bound.false)))

pub returns : goal.returns
returns c =
    let long = ap length c.of-statements.ensures in
    first_none (half_of c.args.half c.args.rule.now) (StatementUnbound c.args.rule.now (place_in c.args.half)) (λ k s lt. c.loop-place.invariant k s (omega (arith, long)))
