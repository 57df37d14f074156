use Rattle.rule_typing.proofs.Common.{◌≡◌, ℕ, ◌<◌, ◌-◌, List, slice_index, sum_by, AreOf, AtMost, SolvesFrom}
use Rattle.rule_typing.proofs.solving.settle.Given as goal

abbrev pub invariant-loop-smaller : goal.invariant-loop-smaller
invariant-loop-smaller l = record {
  chosen : AreOf l.sets l.widths;
  keeps : (c : ℕ) → c < l.kept → slice_index l.widths c ≡ slice_index l.initial.widths c;
  rises : AtMost l.initial.widths l.widths;
  least : (others : List ℕ) → SolvesFrom l.rule l.sets l.kept l.initial.widths others → AtMost l.widths others;
}

abbrev pub decreases-loop-smaller : goal.decreases-loop-smaller
decreases-loop-smaller l = sum_by (λ w. 65 - w) l.widths
