-- Which widths a class of a rule may have by itself, whatever those of the other classes are.
use Rattle.std.specs.Prelude.{◌≡◌, ℕ, ℤ, ◌≤◌, ◌<◌, List, Contains}
use Rattle.rule_core.specs.declared.rule.Rule.{Rule}
use Rattle.rule_core.specs.declared.rule.Operand.{Operand}
use Rattle.rule_core.specs.declared.rule.Argument.TheVariants as arguments
use Rattle.rule_core.specs.declared.rule.Term.{Term}
use Rattle.rule_core.specs.declared.rule.Node.TheVariants as nodes
use Rattle.rule_core.specs.Positions.{operands_in, IsTermOf, Fixed}
use Rattle.rule_core.specs.Typing.{FitsLiteral}

-- class c of the rule may have the width N: it is from 1 to 64, it is the fixed one if there is one, and literals fit
-- it
pub record MayHaveWidth (rule : Rule) (c N : ℕ) : Type 0 where
  pub within : (1 ≤ N) × (N ≤ 64)
  pub fixed : (M : ℕ) → Fixed rule c M → M ≡ N
  pub literals : (o : Operand) (z : ℤ) → Contains (operands_in rule) o → o.class ≡ c → o.value ≡ arguments.Literal z → FitsLiteral N z
  pub term_literals : (t : Term) (z : ℤ) → IsTermOf rule t → t.class ≡ c → t.node ≡ nodes.Literal z → FitsLiteral N z

-- the operand fits the width N, if it is a literal and has the class c
abbrev pub FitsIn : ℕ → ℕ → Operand → Type 0
FitsIn c N o = (z : ℤ) → o.class ≡ c → o.value ≡ arguments.Literal z → FitsLiteral N z

-- each of these operands fits
abbrev pub LiteralsFit : List Operand → ℕ → ℕ → Type 0
LiteralsFit operands c N = (o : Operand) → Contains operands o → FitsIn c N o

-- the node fits the width N, if it is a literal and has the class c
abbrev pub TermFits : ℕ → ℕ → Term → Type 0
TermFits c N t = (z : ℤ) → t.class ≡ c → t.node ≡ nodes.Literal z → FitsLiteral N z

-- each of these nodes fits
abbrev pub TermsFit : List Term → ℕ → ℕ → Type 0
TermsFit terms c N = (t : Term) → Contains terms t → TermFits c N t

-- n is one more than the greatest of these numbers, or 0 where there are none
pub record IsPast (numbers : List ℕ) (n : ℕ) : Type 0 where
  pub past : (c : ℕ) → Contains numbers c → c < n
  pub least : (c : ℕ) → c < n → (d : ℕ) × Contains numbers d × (c ≤ d)
