use Rattle.ir_instructions.proofs.Common.{◌∙◌, sym, err_from_is_err_and, seen, is_flag, flag_at}
use Rattle.ir_instructions.proofs.Loops.{repeat-more, repeat-fault, repeat-done}
use Rattle.ir_instructions.proofs.Takings.{flag-takes}
use Rattle.ir_instructions.proofs.op.flags.Goals as goal

pub returns-in_err-flags : goal.returns-in_err-flags
returns-in_err-flags c =
    let p = err_from_is_err_and c.from_residual.result c.from_residual.ensures.1 in
    rw (p.1, p.2) (sym c.flags.invariant ∙ repeat-fault (is_flag c.args.taken) (flag_at c.args.taken) c.flags.flags (seen c.flags.tokens.now) c.in_err-flags.field-0.0 (sym c.is_flag.ensures ∙ c.flags-test.true) c.in_err-flags.ensures)

pub flags-smaller : goal.flags-smaller
flags-smaller c = flag-takes c.args.taken c.flags.flags (seen c.flags.tokens.now) (c.in_ok-flags.flags, seen c.flag.new.tokens.now) (sym c.is_flag.ensures ∙ c.flags-test.true) c.in_ok-flags.ensures

pub flags-preserved : goal.flags-preserved
flags-preserved c =
    sym (repeat-more (is_flag c.args.taken) (flag_at c.args.taken) (flag-takes c.args.taken) c.flags.flags (seen c.flags.tokens.now) (c.in_ok-flags.flags, seen c.flag.new.tokens.now) (sym c.is_flag.ensures ∙ c.flags-test.true) c.in_ok-flags.ensures)
    ∙ c.flags.invariant

pub returns : goal.returns
returns c = sym c.flags.invariant ∙ repeat-done (is_flag c.args.taken) (flag_at c.args.taken) c.flags.flags (seen c.flags.tokens.now) (sym c.is_flag.ensures ∙ c.flags-test.false)
