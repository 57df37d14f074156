use Rattle.rule_reader.proofs.Common.{arith, refl, TermIsBound}
use Rattle.rule_reader.specs.declared.place.UseSite.TheVariants as places
use Rattle.rule_reader.proofs.Looking.{says, denies, is_yes, is_no}
use Rattle.rule_reader.proofs.Members.{each_more, not_each, each_all}
use Rattle.rule_reader.proofs.bound.expressions_are_bound.Goals as goal

pub returns-then-not-term_is_bound : goal.returns-then-not-term_is_bound
returns-then-not-term_is_bound c =
    is_no _ _ refl (not_each (TermIsBound c.args.rule.now places.Heading) c.args.expressions.now c.loop-expression.expression-index c.expression-item.result (omega arith) c.expression-item.is (denies _ _ (rw c.as_slice.ensures at c.term_is_bound.ensures) c.if-not-term_is_bound.true))

pub loop-expression-preserved : goal.loop-expression-preserved
loop-expression-preserved c =
    each_more (TermIsBound c.args.rule.now places.Heading) c.args.expressions.now c.loop-expression.expression-index c.expression-item.result (omega arith) c.expression-item.is c.loop-expression.invariant (says _ _ (rw c.as_slice.ensures at c.term_is_bound.ensures) c.if-not-term_is_bound.false)

pub returns : goal.returns
returns c = is_yes _ _ refl (each_all (TermIsBound c.args.rule.now places.Heading) c.args.expressions.now c.loop-expression.expression-index (omega arith) c.loop-expression.invariant)
