-- Rules by the operations of their roots.
use Rattle.std.specs.Prelude.{◌≡◌, ◌↔◌, ℕ, ◌-◌, ◌<◌, List, length, Option, None, Some, Contains, AllPairs, slice_get, option_and_then}
use Rattle.ir_core.specs.declared.instruction.Op.{Op as InstOp}
use Rattle.ir_core.specs.declared.instruction.Op.TheVariants as ops
use Rattle.rule_core.specs.declared.rule.Op.{Op as RuleOp}
use Rattle.rule_core.specs.declared.rule.Op.TheVariants as rule_ops
use Rattle.rule_core.specs.declared.rule.Rule.{Rule}
use Rattle.rule_matches.specs.declared.roots.RootKind.{RootKind}
use Rattle.rule_matches.specs.declared.roots.RootKind.TheVariants.{Binary, Compare, Unary, Select, Convert, Freeze}
use Rattle.rule_matches.specs.declared.roots.RulesByRoot.{RulesByRoot}
use Rattle.rule_matches.specs.declared.roots.Group.{Group}

abbrev pub kind_of_statement : RuleOp → Option RootKind
kind_of_statement (rule_ops.Binary opcode flags a b) = Some (Binary opcode)
kind_of_statement (rule_ops.Compare pred samesign a b) = Some (Compare pred)
kind_of_statement (rule_ops.Unary op truth a) = Some (Unary op)
kind_of_statement (rule_ops.Select c a b) = Some Select
kind_of_statement (rule_ops.Convert cast flags a to) = Some (Convert cast)
kind_of_statement (rule_ops.Freeze a k) = Some Freeze
kind_of_statement (rule_ops.Copy a) = None

abbrev pub kind_of_inst : InstOp → Option RootKind
kind_of_inst (ops.Binary opcode flags x y) = Some (Binary opcode)
kind_of_inst (ops.Compare pred samesign width x y) = Some (Compare pred)
kind_of_inst (ops.Unary op truth x) = Some (Unary op)
kind_of_inst (ops.Select c x y) = Some Select
kind_of_inst (ops.Convert cast flags from x) = Some (Convert cast)
kind_of_inst (ops.Freeze x) = Some Freeze
kind_of_inst (ops.Phi entries) = None

-- the root is the last statement of the source
abbrev pub kind_of_root : Rule → Option RootKind
kind_of_root rule = option_and_then (λ s. kind_of_statement s.op) (slice_get rule.source (length rule.source - 1))

-- the root of rule r is of this kind
abbrev pub HasRootKind : List Rule → RootKind → ℕ → Type 0
HasRootKind rules kind r = (rule : Rule) × (slice_get rules r ≡ Some rule) × (kind_of_root rule ≡ Some kind)

-- these are the indices of all rules whose root is of this kind, in order
pub record AreOfKind (rules : List Rule) (kind : RootKind) (places : List ℕ) : Type 0 where
  pub same : (r : ℕ) → Contains places r ↔ HasRootKind rules kind r
  pub in_order : AllPairs (λ q r. q < r) places

-- group g is that of this kind
abbrev pub IsGroupOf : RulesByRoot → RootKind → ℕ → Type 0
IsGroupOf all kind g = (group : Group) × (slice_get all.groups.items g ≡ Some group) × (group.kind ≡ kind)

-- each group has all rules of its kind, each kind of a rule's root has a group, and no kind has two
pub record AreByRoot (rules : List Rule) (all : RulesByRoot) : Type 0 where
  pub each : (g : ℕ) (group : Group) → slice_get all.groups.items g ≡ Some group → AreOfKind rules group.kind group.rules.items
  pub some : (r : ℕ) (kind : RootKind) → HasRootKind rules kind r → (g : ℕ) × IsGroupOf all kind g
  pub one : (kind : RootKind) (g h : ℕ) → IsGroupOf all kind g → IsGroupOf all kind h → g ≡ h

-- these are the indices of the rules that may match at this instruction, in order: all whose root is of its kind, and
-- none where it has no kind
pub record AreCandidates (rules : List Rule) (op : InstOp) (places : List ℕ) : Type 0 where
  pub same : (r : ℕ) → Contains places r ↔ ((kind : RootKind) × (kind_of_inst op ≡ Some kind) × HasRootKind rules kind r)
  pub in_order : AllPairs (λ q r. q < r) places
