use Rattle.places.proofs.Common.{◌≡◌, ℕ, length, Has}
use Rattle.places.proofs.marks.Marks.none.Given as goal

abbrev pub invariant-loop-block : goal.invariant-loop-block
invariant-loop-block l =
    record {
      blocks : length l.rows.items ≡ l._block;
      none : (b n : ℕ) → ¬ Has l.rows.items b n;
    }
