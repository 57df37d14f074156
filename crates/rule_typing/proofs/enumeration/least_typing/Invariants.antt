use Rattle.rule_typing.proofs.Common.{◌≡◌, ℕ, ◌<◌, length, Some, slice_get, slice_index, Widths, Has, IsLeast, GoesOn}
use Rattle.rule_typing.proofs.enumeration.least_typing.Given as goal

abbrev pub invariant-loop-class : goal.invariant-loop-class
invariant-loop-class l = record {
  count : length l.widths.items ≡ l.class;
  least : (c : ℕ) (set : Widths) → c < l.class → slice_get l.sets c ≡ Some set → IsLeast (λ N. Has set N × GoesOn l.beginning l.bound c N) (Some (slice_index l.widths.items c));
}
