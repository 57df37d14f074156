-- What evaluating a formula needs: the nodes and the terms that a node reads have values, and both sides of a
-- comparison have one width.
use Rattle.std.specs.Prelude.{◌≡◌, ℕ, ◌<◌, List, length, Some, slice_get}
use Rattle.ops.specs.Value.{IsValueOf}
use Rattle.ops.specs.declared.value.Value.{Value}
use Rattle.rule_core.specs.declared.rule.Formula.{Formula}
use Rattle.rule_core.specs.declared.rule.Formula.TheVariants as formulas

-- node n of a formula can be evaluated after those before it, where the terms give these values
abbrev pub CanBeRead : List Value → ℕ → Formula → Type 0
CanBeRead values n (formulas.Compare pred a b) =
    (N : ℕ) × (v : Value) × (w : Value) × (slice_get values a ≡ Some v) × (slice_get values b ≡ Some w) × IsValueOf N v × IsValueOf N w
CanBeRead values n (formulas.IsPowerOfTwo a) = a < length values
CanBeRead values n (formulas.IsSignBit a) = a < length values
CanBeRead values n (formulas.HasOneUse k) = Unit {0}
CanBeRead values n (formulas.MaskedValueIsZero r a) = Unit {0}
CanBeRead values n (formulas.IsKnownNonZero r) = Unit {0}
CanBeRead values n (formulas.Not a) = a < n
CanBeRead values n (formulas.And a b) = (a < n) × (b < n)
CanBeRead values n (formulas.Or a b) = (a < n) × (b < n)

-- each node of the formula can be
abbrev pub AreReady : List Value → List Formula → Type 0
AreReady values formulas = (n : ℕ) (f : Formula) → slice_get formulas n ≡ Some f → CanBeRead values n f
