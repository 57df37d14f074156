-- Which nodes of a list are those of one formula, and where `hasOneUse` may be among them: each stands behind its
-- operands, and the last one is the whole formula.
use Rattle.std.specs.Prelude.{◌≡◌, ◌⊎◌, ℕ, List, Some, slice_get}
use Rattle.rule_core.specs.declared.rule.Formula.{Formula}
use Rattle.rule_core.specs.declared.rule.Formula.TheVariants as formulas

-- a node of a formula, as far as it matters to where `hasOneUse` may stand: by its operands among the nodes
pub data Joint : Type 0 where
  -- it may stand as a member of the outermost `&&` alone: `hasOneUse`, or what is said of a register's bits
  Outer : Joint
  -- it is another node without operands in the formula, as a comparison
  Single : Joint
  Turns : (operand : ℕ) → Joint
  Both : (left right : ℕ) → Joint
  Either : (left right : ℕ) → Joint

abbrev pub joint_of : Formula → Joint
joint_of (formulas.HasOneUse j) = Outer
joint_of (formulas.MaskedValueIsZero r a) = Outer
joint_of (formulas.IsKnownNonZero r) = Outer
joint_of (formulas.Not a) = Turns a
joint_of (formulas.And a b) = Both a b
joint_of (formulas.Or a b) = Either a b
joint_of formula = Single

-- the node at the place is an operand of this one
abbrev pub IsPartOf : ℕ → Joint → Type 0
IsPartOf a (Turns b) = a ≡ b
IsPartOf a (Both b c) = (a ≡ b) ⊎ (a ≡ c)
IsPartOf a (Either b c) = (a ≡ b) ⊎ (a ≡ c)
IsPartOf a node = ⊥

-- such a member stands in what the node at the place is the whole of
pub data HasOuter (joints : List Joint) : ℕ → Type 0 where
  itself : {n : ℕ} → slice_get joints n ≡ Some Outer → HasOuter joints n
  part : {n : ℕ} (a : ℕ) (node : Joint) → slice_get joints n ≡ Some node → IsPartOf a node → HasOuter joints a → HasOuter joints n

-- where it may stand below this node: in no `!`, in no `||`, and on the right of a `&&` only as the whole right side
abbrev pub OuterMayStand : List Joint → Joint → Type 0
OuterMayStand joints (Turns a) = ¬ HasOuter joints a
OuterMayStand joints (Both a b) = HasOuter joints b → slice_get joints b ≡ Some Outer
OuterMayStand joints (Either a b) = (¬ HasOuter joints a) × (¬ HasOuter joints b)
OuterMayStand joints node = Unit {0}

-- each node keeps to that, so `hasOneUse` stands as a member of the outermost `&&` alone
abbrev pub OuterIsOutermost : List Joint → Type 0
OuterIsOutermost joints = (n : ℕ) (node : Joint) → slice_get joints n ≡ Some node → OuterMayStand joints node
