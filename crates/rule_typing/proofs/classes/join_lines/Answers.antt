use Rattle.rule_typing.proofs.Merging.{not_merged, IsRule-merged}
use Rattle.rule_typing.proofs.Joining.{pair, falls, more}
use Rattle.rule_typing.proofs.classes.join_lines.Goals as goal

pub loop-a-init : goal.loop-a-init
loop-a-init c = not_merged c.args.rule.now

pub split_line-requires : goal.split_line-requires
split_line-requires c = IsRule-merged c.args.rule.now c.loop-a.rule c.requires c.loop-a.invariant

pub loop-a-smaller : goal.loop-a-smaller
loop-a-smaller c =
    falls c.loop-a.rule c.apply.new.rule c.max.result c.min.result
    (pair c.loop-a.rule c.in-Some.a c.in-Some.b c.max.result c.min.result c.in-Some.ensures.split.0 c.in-Some.ensures.split.1 c.max.ensures c.min.ensures) c.apply.ensures

pub loop-a-preserved : goal.loop-a-preserved
loop-a-preserved c =
    more c.args.rule.now c.loop-a.rule c.apply.new.rule c.max.result c.min.result c.loop-a.invariant
    (pair c.loop-a.rule c.in-Some.a c.in-Some.b c.max.result c.min.result c.in-Some.ensures.split.0 c.in-Some.ensures.split.1 c.max.ensures c.min.ensures) c.apply.ensures
