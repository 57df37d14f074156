use Rattle.verdict.proofs.Common.{◌≡◌, ◌++◌, into_iter_items, AddsRows}
use Rattle.verdict.proofs.verification.push_rows.Given as goal

-- the rows are those of the typings so far; the others remain
abbrev pub invariant-loop-typing : goal.invariant-loop-typing
invariant-loop-typing l =
    record {
      added : AddsRows l.conflicts l.place l.rule l.yielded l.fn.verified l.verified;
      left : l.yielded ++ into_iter_items l.typing-iterator ≡ l.fn.typings;
    }
