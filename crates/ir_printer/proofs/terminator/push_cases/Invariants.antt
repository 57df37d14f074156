use Rattle.ir_printer.proofs.Common.{◌≡◌, ◌++◌, take, flat_map, case_text}
use Rattle.ir_printer.proofs.terminator.push_cases.Given as goal

abbrev pub invariant-loop-case : goal.invariant-loop-case
invariant-loop-case l = l.out.items ≡ l.fn.out.items ++ flat_map (case_text l.called.function.now) (take l.case-index l.cases)
