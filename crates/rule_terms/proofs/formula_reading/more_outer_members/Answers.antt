use Rattle.rule_terms.proofs.Common.{err_from_is_err_and, codes, seen, joins, outer_member_at, Outermost, Member, rule_limits}
use Rattle.rule_terms.specs.declared.raw.RawFormula.TheVariants as raw
use Rattle.rule_terms.proofs.ChainLemmas.{taken-more, taken-fault, taken-done, taken-smaller}
use Rattle.rule_terms.proofs.FormulaReadings.{outer_member_at-is, joins_shortens, reads_shorten, joins-read, joins-fault}
use Rattle.rule_terms.proofs.formula_reading.more_outer_members.Goals as goal

pub returns-in_err-outer_member : goal.returns-in_err-outer_member
returns-in_err-outer_member c =
    let p = err_from_is_err_and c.from_residual.result c.from_residual.ensures.1 in
    rw (p.1, p.2) (taken-fault (joins raw.And (outer_member_at rule_limits c.args.line)) (codes "&&") c.loop-alloc.nodes (seen c.loop-alloc.tokens.now) (seen c.takes.new.tokens.now) c.takes.result _ c.in_err-outer_member.field-0.0 c.takes.ensures.next c.loop-alloc-test.true c.takes.ensures.goes (joins-fault rule_limits raw.And (outer_member_at rule_limits c.args.line) c.loop-alloc.nodes (seen c.takes.new.tokens.now) c.in_err-outer_member.field-0.0 c.in_err-outer_member.ensures) c.loop-alloc.invariant)

pub loop-alloc-smaller : goal.loop-alloc-smaller
loop-alloc-smaller c =
    taken-smaller (outer_member_at rule_limits c.args.line) (reads_shorten rule_limits (outer_member_at-is rule_limits c.args.line)) (codes "&&") c.loop-alloc.nodes c.outer_member.new.nodes (seen c.loop-alloc.tokens.now) (seen c.takes.new.tokens.now) (seen c.outer_member.new.tokens.now) c.takes.result c.takes.ensures.next c.loop-alloc-test.true c.takes.ensures.goes c.in_ok-outer_member.ensures

pub loop-alloc-preserved : goal.loop-alloc-preserved
loop-alloc-preserved c =
    rw (c.in_ok-push.ensures.ok, c.last_place-left.ensures, c.last_place-right.ensures)
    (taken-more (joins raw.And (outer_member_at rule_limits c.args.line)) (joins_shortens rule_limits raw.And Outermost Member rule_limits.nested (outer_member_at rule_limits c.args.line) (outer_member_at-is rule_limits c.args.line)) (codes "&&") c.loop-alloc.nodes _ (seen c.loop-alloc.tokens.now) (seen c.takes.new.tokens.now) (seen c.outer_member.new.tokens.now) c.takes.result _ c.takes.ensures.next c.loop-alloc-test.true c.takes.ensures.goes (joins-read rule_limits raw.And (outer_member_at rule_limits c.args.line) c.loop-alloc.nodes c.outer_member.new.nodes (seen c.takes.new.tokens.now) (seen c.outer_member.new.tokens.now) c.in_ok-outer_member.ensures) c.loop-alloc.invariant)

pub returns : goal.returns
returns c =
    taken-done (joins raw.And (outer_member_at rule_limits c.args.line)) (codes "&&") c.loop-alloc.nodes (seen c.loop-alloc.tokens.now) (seen c.takes.new.tokens.now) c.takes.result _ c.takes.ensures.next c.loop-alloc-test.false c.takes.ensures.goes c.loop-alloc.invariant
