use Rattle.rule_typing.proofs.Common.{◌≡◌, length, subst, arith, length_push, HasClasses, MayChoose, HasExactly}
use Rattle.rule_typing.proofs.Sets.{each_push}
use Rattle.rule_typing.proofs.enumeration.choices.Goals as goal

pub loop-class-preserved : goal.loop-class-preserved
loop-class-preserved c =
    rw c.in_ok-push.ensures.items
    (record {
      count = omega (arith, length_push c.loop-class.sets.items c.choices_of_class.result, c.loop-class.invariant.count);
      each = each_push (λ k set. HasExactly set (MayChoose c.args.rule.now c.args.widths.now k)) c.loop-class.sets.items c.loop-class.class c.choices_of_class.result c.loop-class.invariant.count c.choices_of_class.ensures c.loop-class.invariant.each;
    })

pub returns-clause-count : goal.returns-clause-count
returns-clause-count c =
    let whole : c.class_count-class-end.result ≡ length c.loop-class.sets.items = omega (arith, c.loop-class.invariant.count, c.loop-class-test.false, c.loop-class.auto.class-end) in
    subst (HasClasses c.args.rule.now) whole c.class_count-class-end.ensures
