use Rattle.rule_parse.proofs.Common.{sym, ◌∙◌, seen, rule_limits}
use Rattle.rule_parse.proofs.Loops.{flags-more, flags-again}
use Rattle.rule_parse.proofs.OpSpellings.{flags_done}
use Rattle.rule_parse.proofs.op.flags.Goals as goal

pub returns-then-has_flag : goal.returns-then-has_flag
returns-then-has_flag c =
    sym c.loop-flag.invariant ∙ flags-again rule_limits c.args.taken c.args.line c.loop-flag.flags c.in-Some.flag (seen c.loop-flag.tokens.now) (sym c.in-Some.ensures.flag) (sym c.if-has_flag.ensures)

pub loop-flag-preserved : goal.loop-flag-preserved
loop-flag-preserved c =
    rw (c.with_flag-flags.ensures, c.in-Some.ensures.goes)
    (sym (flags-more rule_limits c.args.taken c.args.line c.loop-flag.flags c.in-Some.flag (seen c.loop-flag.tokens.now) (sym c.in-Some.ensures.flag) (sym c.if-has_flag.ensures)) ∙ c.loop-flag.invariant)

pub returns : goal.returns
returns c =
    rw c.in_default.ensures.stays
    (sym c.loop-flag.invariant ∙ flags_done rule_limits c.args.taken c.args.line c.loop-flag.flags (seen c.loop-flag.tokens.now) (sym c.in_default.ensures.flag))
