use Rattle.rule_typing.proofs.Common.{◌≡◌, drop, [], arith, length, slice_get-get_or, length_push, take-append-le, take_all}
use Rattle.rule_typing.proofs.Begun.{AreFirst, first_of, least_behind, none_behind, no_first, one_more, all_first}
use Rattle.rule_typing.proofs.enumeration.least_typing.Goals as goal
use Rattle.rule_typing.proofs.enumeration.least_typing.Goals.{After-deref_mut}

pub least_width-requires : goal.least_width-requires
least_width-requires c less = c.requires.beginning c.loop-class.class _ less (slice_get-get_or c.args.sets.now c.loop-class.class (record { has = [] }) c.loop-class-test.true)

pub returns-in-None : goal.returns-in-None
returns-in-None c =
    no_first c.args.rule.now c.args.sets.now c.args.beginning.now c.args.bound c.loop-class.class _ (slice_get-get_or c.args.sets.now c.loop-class.class (record { has = [] }) c.loop-class-test.true) c.loop-class-test.true c.in-None.ensures

pub loop-class-preserved : goal.loop-class-preserved
loop-class-preserved c =
    rw c.in_ok-push-in-Some.ensures.items
    (record {
      count = omega (arith, length_push c.loop-class.widths.items c.in-Some.width, c.loop-class.invariant.count);
      least = one_more c.args.sets.now c.args.beginning.now c.args.bound c.loop-class.widths.items c.loop-class.class c.in-Some.width (record { has = [] }) c.loop-class.invariant.count c.loop-class-test.true c.loop-class.invariant.least c.in-Some.ensures;
    })

pub settle-requires-clause-classes : goal.settle-requires-clause-classes
settle-requires-clause-classes c k among = (c.requires.count k).0 among

-- the widths that `settle` is given
count : (c : After-deref_mut) → length c.loop-class.widths.items ≡ length c.args.sets.now
count c = omega (arith, c.loop-class.invariant.count, c.loop-class-test.false, c.loop-class.auto.class-end)

firsts : (c : After-deref_mut) → AreFirst c.args.sets.now c.args.beginning.now c.args.bound c.loop-class.widths.items
firsts c = all_first c.args.sets.now c.args.beginning.now c.args.bound c.loop-class.widths.items c.loop-class.class c.loop-class-test.false c.loop-class.invariant.least

pub settle-requires-clause-chosen : goal.settle-requires-clause-chosen
settle-requires-clause-chosen c =
    rw c.deref_mut.ensures.value (first_of c.args.rule.now c.args.sets.now c.args.beginning.now c.args.bound c.loop-class.widths.items (count c) (firsts c))

pub returns-then-settle : goal.returns-then-settle
returns-then-settle c =
    let d = (goal.at.returns-then-settle c).After-deref_mut in
    let kept : length c.settle.new.widths ≡ c.loop-class.widths.len = omega (arith, c.settle.auto.widths, c.deref_mut.ensures.len) in
    rw (c.from_vec.ensures, take-append-le c.loop-class.widths.len c.settle.new.widths (drop (length c.settle.new.widths) c.loop-class.widths.items) (omega arith), take_all c.loop-class.widths.len c.settle.new.widths (omega arith))
    (least_behind c.args.rule.now c.args.sets.now c.args.beginning.now c.args.bound c.loop-class.widths.items (count d) (firsts d) c.settle.new.widths (rw c.deref_mut.ensures.value at c.if-settle.ensures.some))

pub returns-else-settle : goal.returns-else-settle
returns-else-settle c =
    let d = (goal.at.returns-else-settle c).After-deref_mut in
    none_behind c.args.rule.now c.args.sets.now c.args.beginning.now c.args.bound c.loop-class.widths.items (count d) (firsts d) (rw c.deref_mut.ensures.value at c.if-settle.ensures.none)
