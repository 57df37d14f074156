use Rattle.rule_typing.proofs.Common.{◌<◌, length, arith, length-take, length-set, false≢true, HasExactly, MayHaveWidth}
use Rattle.rule_typing.proofs.Slots.{exact_more, least_more, slots_of, answered, no_width}
use Rattle.rule_typing.proofs.solving.has_typing.Goals as goal

pub returns-in_default : goal.returns-in_default
returns-in_default c = (
  λ yes. absurd (false≢true yes),
  λ (typing, is). absurd (no_width c.args.rule.now c.args.count c.loop-class.class c.widths_of_class-set.result c.requires.count c.loop-class-test.true c.widths_of_class-set.ensures c.in_default.ensures typing is),
)

pub loop-class-preserved : goal.loop-class-preserved
loop-class-preserved c =
    let sets_within : c.loop-class.class < length c.loop-class.sets = omega (arith, c.loop-class-test.true, c.requires.few, c.loop-class.invariant.sets_count) in
    let widths_within : c.loop-class.class < length c.loop-class.widths = omega (arith, c.loop-class-test.true, c.requires.few, c.loop-class.invariant.widths_count) in
    record {
      sets_count = omega (arith, length-set c.loop-class.sets c.loop-class.class c.widths_of_class-set.result, c.loop-class.invariant.sets_count);
      widths_count = omega (arith, length-set c.loop-class.widths c.loop-class.class c.in-Some.width, c.loop-class.invariant.widths_count);
      exact = exact_more (λ k set. HasExactly set (MayHaveWidth c.args.rule.now k)) c.loop-class.sets c.loop-class.class c.widths_of_class-set.result sets_within c.widths_of_class-set.ensures c.loop-class.invariant.exact;
      least = least_more c.loop-class.sets c.loop-class.widths c.loop-class.class c.in-Some.width c.widths_of_class-set.result sets_within widths_within c.in-Some.ensures c.loop-class.invariant.least;
    }

pub settle-requires-clause-classes : goal.settle-requires-clause-classes
settle-requires-clause-classes c k among = let less = (c.requires.count k).0 among in omega (arith, length-take c.args.count c.loop-class.sets, c.requires.few, c.loop-class.invariant.sets_count)

pub settle-requires-clause-chosen : goal.settle-requires-clause-chosen
settle-requires-clause-chosen c =
    slots_of c.args.rule.now c.args.count c.loop-class.class c.loop-class.sets c.loop-class.widths c.requires.classes c.requires.count
    (omega (arith, c.requires.few, c.loop-class.invariant.sets_count)) (omega (arith, c.requires.few, c.loop-class.invariant.widths_count)) c.loop-class-test.false
    c.loop-class.invariant.exact c.loop-class.invariant.least

pub returns : goal.returns
returns c =
    answered c.args.rule.now c.args.count c.loop-class.class c.loop-class.sets c.loop-class.widths c.requires.classes c.requires.count
    (omega (arith, c.requires.few, c.loop-class.invariant.sets_count)) (omega (arith, c.requires.few, c.loop-class.invariant.widths_count)) c.loop-class-test.false
    c.loop-class.invariant.exact c.loop-class.invariant.least c.settle.result c.settle.new.widths c.settle.ensures.some c.settle.ensures.none
