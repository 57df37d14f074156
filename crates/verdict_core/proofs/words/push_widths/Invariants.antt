use Rattle.verdict_core.proofs.Common.{◌≡◌, ◌++◌, take, decimal, map, join_with_byte}
use Rattle.verdict_core.proofs.words.push_widths.Given as goal

abbrev pub invariant-loop-place : goal.invariant-loop-place
invariant-loop-place l = l.out.items ≡ l.fn.out.items ++ join_with_byte 32 (map decimal (take l.place l.widths))
