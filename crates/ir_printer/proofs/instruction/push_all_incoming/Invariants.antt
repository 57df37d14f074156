use Rattle.ir_printer.proofs.Common.{◌≡◌, ◌++◌, take, codes, join_by, incoming_text}
use Rattle.ir_printer.proofs.instruction.push_all_incoming.Given as goal

abbrev pub invariant-loop-place : goal.invariant-loop-place
invariant-loop-place l = l.out.items ≡ l.fn.out.items ++ join_by (incoming_text l.called.function.now) (codes ", ") (take l.place l.entries)
