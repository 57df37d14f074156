use Rattle.ir_printer.proofs.Common.{case_text}
use Rattle.ir_printer.proofs.Printed.{each_more}
use Rattle.ir_printer.proofs.terminator.push_cases.Goals as goal

pub loop-case-preserved : goal.loop-case-preserved
loop-case-preserved c =
    each_more (case_text c.args.called.now.function.now) c.args.out.now.items _ _ c.args.cases.now c.loop-case.case-index c.case-item.result c.loop-case-test.true c.case-item.is c.loop-case.invariant c.in_ok-push_case.ensures
