use Rattle.rule_typing.proofs.Common.{◌≡◌, ℕ, length, Some, slice_get, Widths, MayChoose, HasExactly}
use Rattle.rule_typing.proofs.enumeration.choices.Given as goal

abbrev pub invariant-loop-class : goal.invariant-loop-class
invariant-loop-class l = record {
  count : length l.sets.items ≡ l.class;
  each : (c : ℕ) (set : Widths) → slice_get l.sets.items c ≡ Some set → HasExactly set (MayChoose l.rule l.widths c);
}
