use Rattle.rule_typing.proofs.Common.{◌≡◌, ◌<◌, length, [], arith, slice_index}
use Rattle.rule_typing.proofs.Raised.{same_bound, none_kept, none_above, raised}
use Rattle.rule_typing.proofs.solving.settle.Goals as goal

pub returns-in-None-clause-none : goal.returns-in-None-clause-none
returns-in-None-clause-none c =
    let within : c.in-Some.larger < length c.args.sets.now = omega (arith, c.in-Some.ensures.some.1.1, c.loop-smaller.invariant.chosen.count) in
    let low_within : c.in-Some.smaller < length c.args.sets.now = omega (arith, c.in-Some.ensures.some.1.0, c.loop-smaller.invariant.chosen.count) in
    let bound : c.bits.result ≡ slice_index c.loop-smaller.widths c.in-Some.smaller = same_bound c.loop-smaller.widths c.in-Some.smaller c.bits.result c.index-widths-smaller.result c.in-Some.ensures.some.1.0 c.bits.ensures.bits c.index-widths-smaller.is in
    none_above c.args.rule.now c.args.sets.now c.args.kept c.args.widths.now c.loop-smaller.widths c.in-Some.smaller c.in-Some.larger _ c.in-Some.ensures.some.0 low_within within c.loop-smaller.invariant.least
    (rw bound at c.in-None.ensures)

pub loop-smaller-preserved : goal.loop-smaller-preserved
loop-smaller-preserved c =
    let within : c.in-Some.larger < length c.args.sets.now = omega (arith, c.in-Some.ensures.some.1.1, c.loop-smaller.invariant.chosen.count) in
    let low_within : c.in-Some.smaller < length c.args.sets.now = omega (arith, c.in-Some.ensures.some.1.0, c.loop-smaller.invariant.chosen.count) in
    let bound : c.bits.result ≡ slice_index c.loop-smaller.widths c.in-Some.smaller = same_bound c.loop-smaller.widths c.in-Some.smaller c.bits.result c.index-widths-smaller.result c.in-Some.ensures.some.1.0 c.bits.ensures.bits c.index-widths-smaller.is in
    raised c.args.rule.now c.args.sets.now c.args.kept c.args.widths.now c.loop-smaller.widths c.in-Some.smaller c.in-Some.larger _ c.in-Some.ensures.some.0 low_within within c.loop-smaller.invariant.least
    c.in-Some-above.width c.loop-smaller.invariant.chosen c.loop-smaller.invariant.keeps c.loop-smaller.invariant.rises c.if-larger-kept.false c.in-Some.ensures.some.1.2
    (rw bound at c.in-Some-above.ensures)

pub returns-then-larger-kept-clause-none : goal.returns-then-larger-kept-clause-none
returns-then-larger-kept-clause-none c =
    let low_within : c.in-Some.smaller < length c.args.sets.now = omega (arith, c.in-Some.ensures.some.1.0, c.loop-smaller.invariant.chosen.count) in
    let within : c.in-Some.larger < length c.args.sets.now = omega (arith, c.in-Some.ensures.some.1.1, c.loop-smaller.invariant.chosen.count) in
    none_kept c.args.rule.now c.args.sets.now c.args.kept c.args.widths.now c.loop-smaller.widths c.in-Some.smaller c.in-Some.larger (record { has = [] }) c.in-Some.ensures.some.0 low_within within c.loop-smaller.invariant.least
    c.if-larger-kept.true c.loop-smaller.invariant.keeps c.in-Some.ensures.some.1.2
