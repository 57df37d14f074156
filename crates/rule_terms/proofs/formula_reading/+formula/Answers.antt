use Rattle.rule_terms.proofs.Common.{err_from_is_err_and, codes, seen, joins, members_of, member_at, Within, Member, Members, rule_limits}
use Rattle.rule_terms.specs.declared.raw.RawFormula.TheVariants as raw
use Rattle.rule_terms.proofs.ChainLemmas.{taken-more, taken-fault, taken-done, taken-smaller}
use Rattle.rule_terms.proofs.FormulaReadings.{member_at-is, members_of-is, joins_shortens, reads_shorten, joins-read, joins-fault}
use Rattle.rule_terms.proofs.FormulaSteps.{member-tests, member-compares, turns-too_deep, encloses-too_deep, turned-fault, turned, enclosed-fault, enclosed}
use Rattle.rule_terms.proofs.formula_reading.+formula.Goals as goal

pub member-returns-in_err-inside-in-Turns : goal.member-returns-in_err-inside-in-Turns
member-returns-in_err-inside-in-Turns t c =
    let p = err_from_is_err_and c.from_residual.result c.from_residual.ensures.1 in
    rw (p.1, p.2) (turns-too_deep rule_limits c.args.nesting c.args.line c.args.nodes.now (seen c.args.tokens.now.now) _ c.in-Turns.ensures c.in_err-inside-in-Turns.ensures)

pub member-returns-in_err-member-in-Turns : goal.member-returns-in_err-member-in-Turns
member-returns-in_err-member-in-Turns t c =
    let p = err_from_is_err_and c.from_residual-in_err-member-in-Turns.result c.from_residual-in_err-member-in-Turns.ensures.1 in
    rw (p.1, p.2) (turned-fault rule_limits c.args.nesting c.args.line c.in_ok-inside-in-Turns.inside c.args.nodes.now (seen c.args.tokens.now.now) (seen c.skip.new.tokens.now) c.in_err-member-in-Turns.field-0.0 c.in-Turns.ensures c.in_ok-inside-in-Turns.ensures c.skip.ensures c.in_err-member-in-Turns.ensures)

pub member-returns-in_err-inside-in-Encloses : goal.member-returns-in_err-inside-in-Encloses
member-returns-in_err-inside-in-Encloses t c =
    let p = err_from_is_err_and c.from_residual-in_err-inside-in-Encloses.result c.from_residual-in_err-inside-in-Encloses.ensures.1 in
    rw (p.1, p.2) (encloses-too_deep rule_limits c.args.nesting c.args.line c.args.nodes.now (seen c.args.tokens.now.now) _ c.in-Encloses.ensures c.in_err-inside-in-Encloses.ensures)

pub member-returns-in_err-alternatives-in-Encloses : goal.member-returns-in_err-alternatives-in-Encloses
member-returns-in_err-alternatives-in-Encloses t c =
    let p = err_from_is_err_and c.from_residual-in_err-alternatives-in-Encloses.result c.from_residual-in_err-alternatives-in-Encloses.ensures.1 in
    rw (p.1, p.2) (enclosed-fault rule_limits c.args.nesting c.args.line c.in_ok-inside-in-Encloses.inside c.args.nodes.now (seen c.args.tokens.now.now) (seen c.skip-in-Encloses.new.tokens.now) c.in_err-alternatives-in-Encloses.field-0.0 c.in-Encloses.ensures c.in_ok-inside-in-Encloses.ensures c.skip-in-Encloses.ensures c.in_err-alternatives-in-Encloses.ensures)

pub member-returns-in_ok-push-in-Turns : goal.member-returns-in_ok-push-in-Turns
member-returns-in_ok-push-in-Turns t c =
    rw (c.in_ok-push-in-Turns.ensures.ok, c.last_place-turned.ensures)
    (turned rule_limits c.args.nesting c.args.line c.in_ok-inside-in-Turns.inside c.args.nodes.now (seen c.args.tokens.now.now) (seen c.skip.new.tokens.now) _ c.in-Turns.ensures c.in_ok-inside-in-Turns.ensures c.skip.ensures c.in_ok-member-in-Turns.ensures)

pub member-returns-in_err-mark-in-Encloses : goal.member-returns-in_err-mark-in-Encloses
member-returns-in_err-mark-in-Encloses t c =
    let p = err_from_is_err_and c.from_residual-in_err-mark-in-Encloses.result c.from_residual-in_err-mark-in-Encloses.ensures.1 in
    rw (p.1, p.2) (enclosed rule_limits c.args.nesting c.args.line c.in_ok-inside-in-Encloses.inside c.args.nodes.now (seen c.args.tokens.now.now) (seen c.skip-in-Encloses.new.tokens.now) _ _ c.in-Encloses.ensures c.in_ok-inside-in-Encloses.ensures c.skip-in-Encloses.ensures c.in_ok-alternatives-in-Encloses.ensures c.in_err-mark-in-Encloses.ensures)

pub member-returns-in_ok-mark-in-Encloses : goal.member-returns-in_ok-mark-in-Encloses
member-returns-in_ok-mark-in-Encloses t c =
    enclosed rule_limits c.args.nesting c.args.line c.in_ok-inside-in-Encloses.inside c.args.nodes.now (seen c.args.tokens.now.now) (seen c.skip-in-Encloses.new.tokens.now) _ _ c.in-Encloses.ensures c.in_ok-inside-in-Encloses.ensures c.skip-in-Encloses.ensures c.in_ok-alternatives-in-Encloses.ensures c.in_ok-mark-in-Encloses.ensures

pub member-returns-in-Tests : goal.member-returns-in-Tests
member-returns-in-Tests t c =
    rw (member-tests rule_limits c.args.nesting c.args.line c.in-Tests.predicate c.args.nodes.now (seen c.args.tokens.now.now) c.in-Tests.ensures, ← c.skip-in-Tests.ensures) c.tests.ensures

pub member-returns-in-Compares : goal.member-returns-in-Compares
member-returns-in-Compares t c =
    rw (member-compares rule_limits c.args.nesting c.args.line c.args.nodes.now (seen c.args.tokens.now.now) c.in-Compares.ensures) c.compares.ensures

pub more_members-returns-in_err-member : goal.more_members-returns-in_err-member
more_members-returns-in_err-member t c =
    let p = err_from_is_err_and c.from_residual.result c.from_residual.ensures.1 in
    rw (p.1, p.2) (taken-fault (joins raw.And (member_at rule_limits c.args.nesting c.args.line)) (codes "&&") c.loop-alloc.nodes (seen c.loop-alloc.tokens.now) (seen c.takes.new.tokens.now) c.takes.result _ c.in_err-member.field-0.0 c.takes.ensures.next c.loop-alloc-test.true c.takes.ensures.goes (joins-fault rule_limits raw.And (member_at rule_limits c.args.nesting c.args.line) c.loop-alloc.nodes (seen c.takes.new.tokens.now) c.in_err-member.field-0.0 c.in_err-member.ensures) c.loop-alloc.invariant)

pub more_members-loop-alloc-smaller : goal.more_members-loop-alloc-smaller
more_members-loop-alloc-smaller t c =
    taken-smaller (member_at rule_limits c.args.nesting c.args.line) (reads_shorten rule_limits (member_at-is rule_limits Within c.args.nesting c.args.line)) (codes "&&") c.loop-alloc.nodes c.member.new.nodes (seen c.loop-alloc.tokens.now) (seen c.takes.new.tokens.now) (seen c.member.new.tokens.now) c.takes.result c.takes.ensures.next c.loop-alloc-test.true c.takes.ensures.goes c.in_ok-member.ensures

pub more_members-loop-alloc-preserved : goal.more_members-loop-alloc-preserved
more_members-loop-alloc-preserved t c =
    rw (c.in_ok-push.ensures.ok, c.last_place-left.ensures, c.last_place-right.ensures)
    (taken-more (joins raw.And (member_at rule_limits c.args.nesting c.args.line)) (joins_shortens rule_limits raw.And Within Member c.args.nesting (member_at rule_limits c.args.nesting c.args.line) (member_at-is rule_limits Within c.args.nesting c.args.line)) (codes "&&") c.loop-alloc.nodes _ (seen c.loop-alloc.tokens.now) (seen c.takes.new.tokens.now) (seen c.member.new.tokens.now) c.takes.result _ c.takes.ensures.next c.loop-alloc-test.true c.takes.ensures.goes (joins-read rule_limits raw.And (member_at rule_limits c.args.nesting c.args.line) c.loop-alloc.nodes c.member.new.nodes (seen c.takes.new.tokens.now) (seen c.member.new.tokens.now) c.in_ok-member.ensures) c.loop-alloc.invariant)

pub more_members-returns : goal.more_members-returns
more_members-returns t c =
    taken-done (joins raw.And (member_at rule_limits c.args.nesting c.args.line)) (codes "&&") c.loop-alloc.nodes (seen c.loop-alloc.tokens.now) (seen c.takes.new.tokens.now) c.takes.result _ c.takes.ensures.next c.loop-alloc-test.false c.takes.ensures.goes c.loop-alloc.invariant

pub more_alternatives-returns-in_err-members : goal.more_alternatives-returns-in_err-members
more_alternatives-returns-in_err-members t c =
    let p = err_from_is_err_and c.from_residual.result c.from_residual.ensures.1 in
    rw (p.1, p.2) (taken-fault (joins raw.Or (members_of (member_at rule_limits c.args.nesting c.args.line))) (codes "||") c.loop-alloc.nodes (seen c.loop-alloc.tokens.now) (seen c.takes.new.tokens.now) c.takes.result _ c.in_err-members.field-0.0 c.takes.ensures.next c.loop-alloc-test.true c.takes.ensures.goes (joins-fault rule_limits raw.Or (members_of (member_at rule_limits c.args.nesting c.args.line)) c.loop-alloc.nodes (seen c.takes.new.tokens.now) c.in_err-members.field-0.0 c.in_err-members.ensures) c.loop-alloc.invariant)

pub more_alternatives-loop-alloc-smaller : goal.more_alternatives-loop-alloc-smaller
more_alternatives-loop-alloc-smaller t c =
    taken-smaller (members_of (member_at rule_limits c.args.nesting c.args.line)) (reads_shorten rule_limits (members_of-is rule_limits Within c.args.nesting (member_at rule_limits c.args.nesting c.args.line) (member_at-is rule_limits Within c.args.nesting c.args.line))) (codes "||") c.loop-alloc.nodes c.members.new.nodes (seen c.loop-alloc.tokens.now) (seen c.takes.new.tokens.now) (seen c.members.new.tokens.now) c.takes.result c.takes.ensures.next c.loop-alloc-test.true c.takes.ensures.goes c.in_ok-members.ensures

pub more_alternatives-loop-alloc-preserved : goal.more_alternatives-loop-alloc-preserved
more_alternatives-loop-alloc-preserved t c =
    rw (c.in_ok-push.ensures.ok, c.last_place-left.ensures, c.last_place-right.ensures)
    (taken-more (joins raw.Or (members_of (member_at rule_limits c.args.nesting c.args.line))) (joins_shortens rule_limits raw.Or Within Members c.args.nesting (members_of (member_at rule_limits c.args.nesting c.args.line)) (members_of-is rule_limits Within c.args.nesting (member_at rule_limits c.args.nesting c.args.line) (member_at-is rule_limits Within c.args.nesting c.args.line))) (codes "||") c.loop-alloc.nodes _ (seen c.loop-alloc.tokens.now) (seen c.takes.new.tokens.now) (seen c.members.new.tokens.now) c.takes.result _ c.takes.ensures.next c.loop-alloc-test.true c.takes.ensures.goes (joins-read rule_limits raw.Or (members_of (member_at rule_limits c.args.nesting c.args.line)) c.loop-alloc.nodes c.members.new.nodes (seen c.takes.new.tokens.now) (seen c.members.new.tokens.now) c.in_ok-members.ensures) c.loop-alloc.invariant)

pub more_alternatives-returns : goal.more_alternatives-returns
more_alternatives-returns t c =
    taken-done (joins raw.Or (members_of (member_at rule_limits c.args.nesting c.args.line))) (codes "||") c.loop-alloc.nodes (seen c.loop-alloc.tokens.now) (seen c.takes.new.tokens.now) c.takes.result _ c.takes.ensures.next c.loop-alloc-test.false c.takes.ensures.goes c.loop-alloc.invariant
