use Rattle.rule_typing.proofs.Common.{◌≡◌, ◌<◌, ℕ, Some, slice_get, MayHaveWidth}
use Rattle.rule_typing.proofs.fits.classes_fit.Given as goal

abbrev pub invariant-loop-class : goal.invariant-loop-class
invariant-loop-class l = (c N : ℕ) → c < l.class → slice_get l.widths c ≡ Some N → MayHaveWidth l.rule c N
