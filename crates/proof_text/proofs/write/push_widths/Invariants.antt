use Rattle.proof_text.proofs.Common.{◌≡◌, ◌++◌, take, map, join_with_byte, numeral}
use Rattle.proof_text.proofs.write.push_widths.Given as goal

abbrev pub invariant-loop-place : goal.invariant-loop-place
invariant-loop-place l = l.out.items ≡ l.fn.out.items ++ join_with_byte 32 (map numeral (take l.place l.widths))
