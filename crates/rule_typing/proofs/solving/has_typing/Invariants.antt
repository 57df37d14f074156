use Rattle.rule_typing.proofs.Common.{◌≡◌, ℕ, ◌<◌, length, Some, [], slice_get, Widths, MayHaveWidth, HasExactly}
use Rattle.rule_typing.proofs.Begun.{AreFirstOf}
use Rattle.rule_typing.proofs.solving.has_typing.Given as goal

abbrev pub invariant-loop-class : goal.invariant-loop-class
invariant-loop-class l = record {
  sets_count : length l.sets ≡ 8;
  widths_count : length l.widths ≡ 8;
  exact : (c : ℕ) (set : Widths) → c < l.class → slice_get l.sets c ≡ Some set → HasExactly set (MayHaveWidth l.rule c);
  least : AreFirstOf l.sets [] 0 l.class l.widths;
}
