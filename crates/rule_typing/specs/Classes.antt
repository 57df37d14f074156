-- The type classes of a rule: which positions are of one class, and how the classes are numbered.
use Rattle.std.specs.Prelude.{◌≡◌, ◌↔◌, ℕ, ◌<◌, ◌⊎◌, List, Some, Contains, slice_get}
use Rattle.rule_core.specs.declared.rule.Rule.{Rule}
use Rattle.rule_core.specs.declared.rule.Statement.{Statement}
use Rattle.rule_core.specs.declared.rule.Operand.{Operand}
use Rattle.rule_core.specs.declared.rule.Argument.{Argument}
use Rattle.rule_core.specs.declared.rule.Argument.TheVariants as arguments
use Rattle.rule_core.specs.Positions.{operands_of, classes_of, Line}
use Rattle.rule_typing.specs.Relabelled.{numbered}

-- Two classes are joined by a chain of lines that each keep two classes at one width: the least equivalence relation
-- that holds of the two classes of each line.
pub data Joined (rule : Rule) : ℕ → ℕ → Type 0 where
  line : {c d : ℕ} → Line rule c d → Joined rule c d
  itself : {c : ℕ} → Joined rule c c
  turned : {c d : ℕ} → Joined rule c d → Joined rule d c
  along : {c d e : ℕ} → Joined rule c d → Joined rule d e → Joined rule c e

-- Two positions are of one class where they are joined in the numbered rule, in which each position starts as a class
-- of its own.
abbrev pub SameClass : Rule → ℕ → ℕ → Type 0
SameClass rule p q = Joined (numbered rule) p q

-- numbers are given from 0 in the order of first appearance: before a number first stands, all smaller ones have stood
abbrev pub IsInOrder : List ℕ → Type 0
IsInOrder numbers = (p c d : ℕ) → slice_get numbers p ≡ Some c → d < c → (q : ℕ) × (q < p) × (slice_get numbers q ≡ Some d)

-- the rule keeps its classes, numbered from 0 in the order in which they first appear
pub record IsClassified (rule : Rule) : Type 0 where
  -- two positions keep one number exactly where they are of one class
  pub classes : (p q c d : ℕ) → slice_get (classes_of rule) p ≡ Some c → slice_get (classes_of rule) q ≡ Some d → (c ≡ d) ↔ SameClass rule p q
  pub numbers : IsInOrder (classes_of rule)

-- the numbers of the rule's classes are those below n
abbrev pub HasClasses : Rule → ℕ → Type 0
HasClasses rule n = (c : ℕ) → Contains (classes_of rule) c ↔ (c < n)

-- the operand is a register or a constant
abbrev pub IsName : Argument → Type 0
IsName (arguments.Register r) = Unit {0}
IsName (arguments.Constant k) = Unit {0}
IsName (arguments.Literal z) = ⊥
IsName (arguments.Truth b) = ⊥
IsName (arguments.Undef k) = ⊥
IsName (arguments.Term n) = ⊥

-- the operand is a register or a constant, and of class c
abbrev pub IsNameOf : ℕ → Operand → Type 0
IsNameOf c o = (o.class ≡ c) × IsName o.value

-- one of these operands is a register or a constant of class c
abbrev pub ReadsClass : List Operand → ℕ → Type 0
ReadsClass operands c = (o : Operand) × Contains operands o × IsNameOf c o

-- a register that the statement assigns, or a register or a constant that it reads, has the class c
abbrev pub NamesClass : ℕ → Statement → Type 0
NamesClass c s = (s.class ≡ c) ⊎ ReadsClass (operands_of s.op) c

abbrev pub IsNamedInSource : Rule → ℕ → Type 0
IsNamedInSource rule c = (s : Statement) × Contains rule.source s × NamesClass c s
