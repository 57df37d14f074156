use Rattle.ir_printer.proofs.Common.{◌≡◌, ◌++◌, take, codes, join_by, enumerate_from, parameter_text}
use Rattle.ir_printer.proofs.header.push_parameters.Given as goal

abbrev pub invariant-loop-place : goal.invariant-loop-place
invariant-loop-place l = l.out.items ≡ l.fn.out.items ++ join_by (parameter_text l.called.function.now) (codes ", ") (take l.place (enumerate_from 0 l.parameters))
