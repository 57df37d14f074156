use Rattle.rule_terms.proofs.Common.{◌≡◌, suc, ◌-◌, sym, ◌∙◌, ap, length, arith, err_from_is_err_and, seen, operand_at, primary_at, rule_limits}
use Rattle.rule_terms.proofs.Chains.{chain-more, chain-fault, chain-done, behind_at-tightest, behind-begun, behind-fault, primary-fault, primary-begun, primary-shallow}
use Rattle.rule_terms.proofs.Meanings.{operator_at-is}
use Rattle.rule_terms.proofs.Readings.{operand_shorter}
use Rattle.rule_terms.proofs.reading.+terms.Goals as goal

pub behind-returns-then-level-eq0 : goal.behind-returns-then-level-eq0
behind-returns-then-level-eq0 t c = behind_at-tightest rule_limits _ c.args.level c.args.nodes.now (seen c.args.tokens.now.now) (omega arith)

pub behind-returns-in_err-behind : goal.behind-returns-in_err-behind
behind-returns-in_err-behind t c =
    let p = err_from_is_err_and c.from_residual.result c.from_residual.ensures.1 in
    let more : c.args.level ≡ suc (c.args.level - 1) = omega arith in
    rw (p.1, p.2) (behind-fault rule_limits (primary_at rule_limits c.args.site.now.place c.args.site.now.line c.args.nesting) c.args.level c.args.nodes.now (seen c.args.tokens.now.now) (c.args.level - 1) c.in_err-behind.field-0.0 more c.in_err-behind.ensures)

pub behind-loop-opcode-init : goal.behind-loop-opcode-init
behind-loop-opcode-init t c =
    let more : c.args.level ≡ suc (c.args.level - 1) = omega arith in
    behind-begun rule_limits (primary_at rule_limits c.args.site.now.place c.args.site.now.line c.args.nesting) c.args.level c.args.nodes.now (seen c.args.tokens.now.now) (c.args.level - 1) (c.behind.new.nodes, seen c.behind.new.tokens.now) more c.in_ok-behind.ensures

pub behind-returns-in_err-operand : goal.behind-returns-in_err-operand
behind-returns-in_err-operand t c =
    let p = err_from_is_err_and c.from_residual-in_err-operand.result c.from_residual-in_err-operand.ensures.1 in
    rw (p.1, p.2) (chain-fault rule_limits (operand_at (primary_at rule_limits c.args.site.now.place c.args.site.now.line c.args.nesting) (c.args.level - 1)) c.args.level c.loop-opcode.nodes (seen c.loop-opcode.tokens.now) (c.in-Some.opcode, seen c.operator.new.tokens.now) _ c.in_err-operand.field-0.0 c.in-Some.ensures.some c.in_err-operand.ensures c.loop-opcode.invariant)

pub behind-loop-opcode-smaller : goal.behind-loop-opcode-smaller
behind-loop-opcode-smaller t c =
    let next = operator_at-is c.args.level (seen c.loop-opcode.tokens.now) (c.in-Some.opcode, seen c.operator.new.tokens.now) c.in-Some.ensures.some in
    omega (
      arith,
      ap length next.whole,
      operand_shorter rule_limits c.args.site.now.place c.args.site.now.line c.args.nesting (c.args.level - 1) c.loop-opcode.nodes (seen c.operator.new.tokens.now) (c.operand.new.nodes, seen c.operand.new.tokens.now) c.in_ok-operand.ensures,
    )

pub behind-loop-opcode-preserved : goal.behind-loop-opcode-preserved
behind-loop-opcode-preserved t c =
    rw (c.in_ok-push.ensures.ok, c.last_place-left.ensures, c.last_place-right.ensures)
    (sym (chain-more rule_limits (operand_at (primary_at rule_limits c.args.site.now.place c.args.site.now.line c.args.nesting) (c.args.level - 1)) c.args.level c.loop-opcode.nodes (seen c.loop-opcode.tokens.now) (c.in-Some.opcode, seen c.operator.new.tokens.now) (c.operand.new.nodes, seen c.operand.new.tokens.now) (operand_shorter rule_limits c.args.site.now.place c.args.site.now.line c.args.nesting (c.args.level - 1)) c.in-Some.ensures.some c.in_ok-operand.ensures) ∙ c.loop-opcode.invariant)

pub behind-returns : goal.behind-returns
behind-returns t c =
    rw c.in_default.ensures.stays (sym c.loop-opcode.invariant ∙ chain-done rule_limits (operand_at (primary_at rule_limits c.args.site.now.place c.args.site.now.line c.args.nesting) (c.args.level - 1)) c.args.level c.loop-opcode.nodes (seen c.loop-opcode.tokens.now) c.in_default.ensures.none)

pub primary-returns-in_err-start : goal.primary-returns-in_err-start
primary-returns-in_err-start t c =
    let p = err_from_is_err_and c.from_residual.result c.from_residual.ensures.1 in
    rw (p.1, p.2) (primary-fault rule_limits c.args.site.now.place c.args.site.now.line c.args.nesting c.args.nodes.now (seen c.args.tokens.now.now) c.in_err-start.field-0.0 c.in_err-start.ensures)

pub primary-returns-then-nesting-eq0 : goal.primary-returns-then-nesting-eq0
primary-returns-then-nesting-eq0 t c =
    primary-shallow rule_limits c.args.site.now.place c.args.site.now.line c.args.nesting c.args.nodes.now _ (seen c.args.tokens.now.now) c.in_ok-start.start _ c.shallow.result (omega arith) c.in_ok-start.ensures c.shallow.ensures

pub primary-returns : goal.primary-returns
primary-returns t c =
    let more : c.args.nesting ≡ suc (c.args.nesting - 1) = omega arith in
    rw (primary-begun rule_limits c.args.site.now.place c.args.site.now.line c.args.nesting c.args.nodes.now (seen c.args.tokens.now.now) (c.args.nesting - 1) c.in_ok-start.start _ more c.in_ok-start.ensures) c.begun.ensures
