-- When widths for the classes of a rule are a typing.
use Rattle.std.specs.Prelude.{◌≡◌, ℕ, ◌-◌, ◌^◌, ◌<◌, ◌≤◌, ℤ, pos, neg_ℤ, ◌≤ℤ◌, ◌<ℤ◌, List, length, Option, Some, Contains, slice_get, option_and_then}
use Rattle.rule_core.specs.declared.rule.Rule.{Rule}
use Rattle.rule_core.specs.declared.rule.Operand.{Operand}
use Rattle.rule_core.specs.declared.rule.Argument.TheVariants as arguments
use Rattle.rule_core.specs.declared.rule.Term.{Term}
use Rattle.rule_core.specs.declared.rule.Node.TheVariants as nodes
use Rattle.rule_core.specs.Positions.{operands_in, classes_of, IsTermOf, Line, Fixed, Smaller}

-- the width of a position, if the rule has it
abbrev pub width_at : Rule → List ℕ → ℕ → Option ℕ
width_at rule typing position = option_and_then (λ c. slice_get typing c) (slice_get (classes_of rule) position)

-- the literal can be written at iN: it is one of N bits, unsigned or in two's complement
abbrev pub FitsLiteral : ℕ → ℤ → Type 0
FitsLiteral N z = (neg_ℤ (pos (2 ^ (N - 1))) ≤ℤ z) × (z <ℤ pos (2 ^ N))

-- The widths are a typing: there is one from 1 to 64 for each class, and they meet each line of the table.
pub record IsTyping (rule : Rule) (typing : List ℕ) : Type 0 where
  pub widths : (N : ℕ) → Contains typing N → (1 ≤ N) × (N ≤ 64)
  -- the classes are the numbers below the count of widths
  pub classes : (c : ℕ) → Contains (classes_of rule) c → c < length typing
  pub no_more : (c : ℕ) → c < length typing → Contains (classes_of rule) c
  -- two classes that a line of the table keeps at one width have one width
  pub same : (c d : ℕ) → Line rule c d → slice_get typing c ≡ slice_get typing d
  -- a class of which a line of the table fixes the width has that width
  pub fixed : (c N : ℕ) → Fixed rule c N → slice_get typing c ≡ Some N
  -- a class that a line of the table keeps below another has a smaller width
  pub smaller : (c d N M : ℕ) → Smaller rule c d → slice_get typing c ≡ Some N → slice_get typing d ≡ Some M → N < M
  -- literals fit their widths
  pub literals : (o : Operand) (z : ℤ) (N : ℕ) → Contains (operands_in rule) o → o.value ≡ arguments.Literal z → slice_get typing o.class ≡ Some N → FitsLiteral N z
  pub term_literals : (t : Term) (z : ℤ) (N : ℕ) → IsTermOf rule t → t.node ≡ nodes.Literal z → slice_get typing t.class ≡ Some N → FitsLiteral N z
