use Rattle.rule_reader.proofs.Looking.{says, denies}
use Rattle.rule_reader.proofs.Assignments.{duplicate_name, duplicate_source, duplicate_target}
use Rattle.rule_reader.proofs.checks.duplicate.Goals as goal

pub returns-then-is_repeated : goal.returns-then-is_repeated
returns-then-is_repeated c = λ earlier marks. duplicate_name earlier c.args.rule.now c.requires (says _ _ marks c.if-is_repeated.true)

pub returns-in-Some : goal.returns-in-Some
returns-in-Some c = λ earlier marks.
    duplicate_source earlier c.args.rule.now c.requires (denies _ _ marks c.if-is_repeated.false) c.as_slice.result.now c.assigned_again.result c.in-Some.line
    c.as_slice.ensures c.assigned_again.ensures c.in-Some.is

pub returns-in-None : goal.returns-in-None
returns-in-None c = λ earlier marks.
    duplicate_target earlier c.args.rule.now c.requires (denies _ _ marks c.if-is_repeated.false)
    c.as_slice.result.now c.as_slice-in-None.result.now c.assigned_again.result c.assigned_again-in-None.result
    c.as_slice.ensures c.assigned_again.ensures c.in-None.is c.as_slice-in-None.ensures c.assigned_again-in-None.ensures
