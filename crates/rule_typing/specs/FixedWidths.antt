-- The constraints of single operations and operands that fix a width, or keep one below another, as the code goes over
-- them.
use Rattle.std.specs.Prelude.{◌≡◌, ◌⊎◌, ◌<◌, ◌≤◌, ℕ, Bool, List, length, Option, None, Some, Contains, slice_get, slice_index}
use Rattle.ops.specs.declared.conversion.Cast.TheVariants.{Trunc, ZExt, SExt}
use Rattle.rule_core.specs.declared.rule.Statement.{Statement}
use Rattle.rule_core.specs.declared.rule.Op.{Op}
use Rattle.rule_core.specs.declared.rule.Op.TheVariants.{Binary, Compare, Unary, Select, Convert, Freeze, Copy}
use Rattle.rule_core.specs.declared.rule.Operand.{Operand}
use Rattle.rule_core.specs.declared.rule.Argument.TheVariants as arguments
use Rattle.rule_core.specs.Positions.{operands_of}

-- the class whose width an operation fixes, and that width, where the result has the class r
abbrev pub fixed_line : ℕ → Op → Option (ℕ × ℕ)
fixed_line r (Binary op flags a b) = None
fixed_line r (Compare pred samesign a b) = Some (r, 1)
fixed_line r (Unary op truth a) = None
fixed_line r (Select z a b) = Some (z.class, 1)
fixed_line r (Convert cast flags a None) = None
fixed_line r (Convert cast flags a (Some N)) = Some (r, N)
fixed_line r (Freeze a k) = None
fixed_line r (Copy a) = None

-- the operand fixes the width N for its class, which is c: by the type before it, or as `true` or `false`
abbrev pub FixesWidth : ℕ → ℕ → Operand → Type 0
FixesWidth c N o = (o.class ≡ c) × ((o.written ≡ Some N) ⊎ (((b : Bool) × (o.value ≡ arguments.Truth b)) × (N ≡ 1)))

-- one of these operands fixes it
abbrev pub OperandFixes : List Operand → ℕ → ℕ → Type 0
OperandFixes operands c N = (o : Operand) × Contains operands o × FixesWidth c N o

-- the statement fixes the width N for the class c, by its operation or by an operand
abbrev pub StatementFixes : ℕ → ℕ → Statement → Type 0
StatementFixes c N s = (fixed_line s.class s.op ≡ Some (c, N)) ⊎ OperandFixes (operands_of s.op) c N

-- for a cast, the class that has to be the narrower one, and the class that has to be wider; the result has the class r
abbrev pub smaller_line : ℕ → Op → Option (ℕ × ℕ)
smaller_line r (Binary op flags a b) = None
smaller_line r (Compare pred samesign a b) = None
smaller_line r (Unary op truth a) = None
smaller_line r (Select z a b) = None
smaller_line r (Convert Trunc flags a to) = Some (r, a.class)
smaller_line r (Convert ZExt flags a to) = Some (a.class, r)
smaller_line r (Convert SExt flags a to) = Some (a.class, r)
smaller_line r (Freeze a k) = None
smaller_line r (Copy a) = None

-- the width of class c is below that of class d, if both have one
abbrev pub IsBelow : List ℕ → ℕ → ℕ → Type 0
IsBelow widths c d = (N M : ℕ) → slice_get widths c ≡ Some N → slice_get widths d ≡ Some M → N < M

-- both have a width, and that of class c is not below that of class d
abbrev pub IsBroken : List ℕ → ℕ → ℕ → Type 0
IsBroken widths c d = (c < length widths) × (d < length widths) × (slice_index widths d ≤ slice_index widths c)

-- the widths meet the constraint of the statement, if it is a cast
abbrev pub MeetsCastLine : List ℕ → Statement → Type 0
MeetsCastLine widths s = (c d : ℕ) → smaller_line s.class s.op ≡ Some (c, d) → IsBelow widths c d
