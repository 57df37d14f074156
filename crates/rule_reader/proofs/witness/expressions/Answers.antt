use Rattle.rule_reader.proofs.Common.{◌-◌, arith, ap}
use Rattle.rule_reader.proofs.Steps.{expressions_more, few_of_expression, places_more}
use Rattle.rule_reader.proofs.witness.expressions.Goals as goal

pub add_term-requires-clause-few : goal.add_term-requires-clause-few
add_term-requires-clause-few c =
    rw c.as_slice.ensures (few_of_expression c.args.rule.now c.args.names.now c.args.written.now c.loop-written.written-index c.written-item.result c.loop-written.terms c.requires.rule c.requires.written (omega arith) c.written-item.is c.loop-written.invariant.terms)

pub overflow_cast-len : goal.overflow_cast-len
overflow_cast-len c =
    let few = few_of_expression c.args.rule.now c.args.names.now c.args.written.now c.loop-written.written-index c.written-item.result c.loop-written.terms c.requires.rule c.requires.written (omega arith) c.written-item.is c.loop-written.invariant.terms in
    omega (arith, few, c.len.ensures, rw c.as_slice.ensures at c.in_ok-add_term.ensures.count)

pub loop-written-preserved : goal.loop-written-preserved
loop-written-preserved c =
    let raw = c.args.rule.now in
    let names = c.args.names.now in
    let ts = c.args.written.now in
    let k = c.loop-written.written-index in
    let t = c.written-item.result in
    let next = expressions_more raw names ts k t c.loop-written.terms _ (omega arith) c.written-item.is c.loop-written.invariant.terms (rw c.as_slice.ensures at c.in_ok-add_term.ensures.means) in
    record {
      terms = next;
      places = places_more raw names ts k t _ c.loop-written.places _ _ (omega arith) c.written-item.is next c.loop-written.invariant.places (ap (λ n. n - 1) c.len.ensures) c.in_ok-push.ensures.ok;
    }
