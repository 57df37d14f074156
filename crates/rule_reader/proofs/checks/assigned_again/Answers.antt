use Rattle.rule_reader.proofs.Common.{sym, subst, arith, AssignsAgain}
use Rattle.rule_reader.proofs.Places.{read_at}
use Rattle.rule_reader.proofs.Firsts.{first_here, first_none, none_more}
use Rattle.rule_reader.proofs.Looking.{says, denies}
use Rattle.rule_reader.proofs.Assignments.{AssignedBefore}
use Rattle.rule_reader.proofs.checks.assigned_again.Goals as goal

pub returns-then-is_assigned : goal.returns-then-is_assigned
returns-then-is_assigned c =
    let statements = c.args.statements.now in
    let s = c.index-statements-place.result in
    first_here statements (AssignsAgain statements) c.loop-place.place s c.requires c.loop-place.invariant
    (read_at statements c.loop-place.place s (omega arith) c.index-statements-place.is)
    (subst (AssignedBefore statements c.loop-place.place) c.as_slice.ensures (says _ _ c.is_assigned.ensures c.if-is_assigned.true))

pub loop-place-preserved : goal.loop-place-preserved
loop-place-preserved c =
    let statements = c.args.statements.now in
    let s = c.index-statements-place.result in
    none_more statements (AssignsAgain statements) c.loop-place.place s c.loop-place.invariant
    (read_at statements c.loop-place.place s (omega arith) c.index-statements-place.is)
    (λ again. denies _ _ c.is_assigned.ensures c.if-is_assigned.false (subst (AssignedBefore statements c.loop-place.place) (sym c.as_slice.ensures) again))

pub returns : goal.returns
returns c =
    let statements = c.args.statements.now in
    first_none statements (AssignsAgain statements) (λ k s lt. c.loop-place.invariant k s (omega arith))
