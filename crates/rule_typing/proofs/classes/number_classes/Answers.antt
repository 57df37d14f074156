use Rattle.rule_typing.proofs.Common.{arith}
use Rattle.rule_typing.proofs.Numbering.{none_yet, known, given, all_seen, same_count}
use Rattle.rule_typing.proofs.classes.number_classes.Goals as goal
use Rattle.rule_typing.proofs.classes.number_classes.Goals.{then-class-next, else-class-next}

pub loop-position-init : goal.loop-position-init
loop-position-init c = none_yet c.args.rule.now

pub class_at-class-requires : goal.class_at-class-requires
class_at-class-requires c = omega (arith, same_count c.args.rule.now c.loop-position.rule c.loop-position.invariant.renumbered)

pub loop-position-preserved : goal.loop-position-preserved
loop-position-preserved c =
    elim c.if-class-next.branch [
      | then-class-next w ↦ rw (w.rule-is, w.next-is)
          (given c.args.rule.now c.loop-position.rule w.apply.new.rule c.loop-position.position c.loop-position.next c.class_at-class.result c.loop-position.invariant c.class_at-class.ensures w.if-class-next.true w.apply.ensures)
      | else-class-next w ↦ rw (w.rule-is, w.next-is)
          (known c.args.rule.now c.loop-position.rule c.loop-position.position c.loop-position.next c.class_at-class.result c.loop-position.invariant c.class_at-class.ensures (omega (arith, w.if-class-next.false)))
    ]

pub returns-clause-order : goal.returns-clause-order
returns-clause-order c = (all_seen c.args.rule.now c.loop-position.rule c.loop-position.position c.loop-position.next c.loop-position.invariant (omega arith)).0

pub returns-clause-count : goal.returns-clause-count
returns-clause-count c = (all_seen c.args.rule.now c.loop-position.rule c.loop-position.position c.loop-position.next c.loop-position.invariant (omega arith)).1
