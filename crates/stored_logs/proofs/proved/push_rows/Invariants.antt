use Rattle.stored_logs.proofs.Common.{◌≡◌, ◌++◌, into_iter_items, AddsProved}
use Rattle.stored_logs.proofs.proved.push_rows.Given as goal

-- the rows are those of the typings so far; the others remain
abbrev pub invariant-loop-typing : goal.invariant-loop-typing
invariant-loop-typing l =
    record {
      added : AddsProved l.conflicts l.place l.rule l.yielded l.fn.proved l.proved;
      left : l.yielded ++ into_iter_items l.typing-iterator ≡ l.fn.typings;
    }
