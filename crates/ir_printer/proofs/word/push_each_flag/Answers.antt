use Rattle.ir_printer.proofs.Common.{flag_text}
use Rattle.ir_printer.proofs.Printed.{each_at}
use Rattle.ir_printer.proofs.word.push_each_flag.Goals as goal

pub loop-flag-preserved : goal.loop-flag-preserved
loop-flag-preserved c =
    each_at (flag_text c.args.flags) c.args.out.now.items _ _ c.args.each.now c.loop-flag.flag-index _ c.loop-flag-test.true c.loop-flag.invariant c.in_ok-push_flag.ensures
