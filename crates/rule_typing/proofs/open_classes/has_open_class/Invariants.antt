use Rattle.rule_typing.proofs.Common.{◌<◌, ℕ, IsOpen}
use Rattle.rule_typing.proofs.open_classes.has_open_class.Given as goal

abbrev pub invariant-loop-class : goal.invariant-loop-class
invariant-loop-class l = (c : ℕ) → c < l.class → IsOpen l.rule c → ⊥
