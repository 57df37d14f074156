-- What the halves of a rule do on inputs, constants and one number for each choice of the half, which is an `undef` or
-- a freeze. As relations; registers are known by place.
use Rattle.std.specs.Prelude.{◌≡◌, ℕ, ◌-◌, if◌then◌else◌, List, [], ◌∷◌, ◌++◌, length, take, Option, Some, slice_get}
use Rattle.ops.specs.Number.{Number}
use Rattle.ops.specs.Instruction.{instruction}
use Rattle.ops.specs.Comparison.{comparison, selection}
use Rattle.ops.specs.Unary.{unary}
use Rattle.ops.specs.Conversion.{conversion}
use Rattle.ops.specs.Integer.{residue, bits}
use Rattle.ops.specs.declared.value.Value.{Value}
use Rattle.ops.specs.declared.value.Value.TheVariants.{Poison, Bits}
use Rattle.ops.specs.declared.value.Effect.{Effect}
use Rattle.ops.specs.declared.value.Effect.TheVariants as effects
use Rattle.rule_core.specs.declared.rule.Rule.{Rule}
use Rattle.rule_core.specs.declared.rule.Statement.{Statement}
use Rattle.rule_core.specs.declared.rule.Op.{Op}
use Rattle.rule_core.specs.declared.rule.Op.TheVariants.{Binary, Compare, Unary, Select, Convert, Freeze, Copy}
use Rattle.rule_core.specs.declared.rule.Operand.{Operand}
use Rattle.rule_core.specs.declared.rule.Argument.{Argument}
use Rattle.rule_core.specs.declared.rule.Argument.TheVariants as arguments
use Rattle.rule_core.specs.declared.rule.Register.{Register}
use Rattle.rule_core.specs.declared.rule.Register.TheVariants as registers
use Rattle.rule_core.specs.Terms.{value_at, number_or_zero, constant_values}

-- what registers hold: the inputs, and what the statements so far have assigned, in order
pub record Held : Type 0 where
  pub inputs : List Value
  pub source : List Value
  pub target : List Value

abbrev pub value_of : Held → Register → Option Value
value_of held (registers.Input k) = slice_get held.inputs k
value_of held (registers.Source k) = slice_get held.source k
value_of held (registers.Target k) = slice_get held.target k

-- the registers after the next source statement, or the next target statement, has assigned v
abbrev pub holding_source : Held → Value → Held
holding_source held v = record held { source = held.source ++ v ∷ [] }

abbrev pub holding_target : Held → Value → Held
holding_target held v = record held { target = held.target ++ v ∷ [] }

-- how statements end: in undefined behaviour, or with what the registers hold then
pub data Ending : Type 0 where
  Undefines : Ending
  Holds : (held : Held) → Ending

-- behind a statement with this effect: undefined behaviour ends the run, and after a value the rest of the run follows
abbrev pub GoesOn : (Value → Type 0) → Effect → Ending → Type 0
GoesOn next effects.Undefined end = end ≡ Undefines
GoesOn next (effects.Gives v) end = next v

-- behind statements that end so: undefined behaviour is the effect of the whole, and else what comes next has it
abbrev pub Leads : (Held → Effect → Type 0) → Ending → Effect → Type 0
Leads next Undefines e = e ≡ effects.Undefined
Leads next (Holds held) e = next held e

-- what is held before the first statement
abbrev pub at_start : List Value → Held
at_start inputs = record { inputs = inputs; source = []; target = [] }

-- the effect is to give the last of these values
abbrev pub GivesLast : List Value → Effect → Type 0
GivesLast values e = (v : Value) × (slice_get values (length values - 1) ≡ Some v) × (e ≡ effects.Gives v)

-- the source without the root's statement
abbrev pub temporaries_of : Rule → List Statement
temporaries_of rule = take (length rule.source - 1) rule.source

-- what statements read beside registers: a number for each constant, one for each choice of their half, and a value for
-- each node of the constant terms
pub record Given : Type 0 where
  pub constants : List Number
  pub choices : List Number
  pub terms : List Value

-- the same, the values of the terms being those at the constants
abbrev pub given_by : List ℕ → List Number → List Number → Rule → Given
given_by typing constants choices rule = record { constants = constants; choices = choices; terms = constant_values typing constants rule }

-- what a freeze gives: its operand, or this number where that is poison
abbrev pub frozen : Value → Number → Value
frozen Poison n = Bits n
frozen (Bits a) n = Bits a

-- With a width for each class:
module _ (typing : List ℕ) (given : Given) where
  -- a register gives what it holds, a literal itself modulo 2^N, a constant and an `undef` their numbers, and a term
  -- what it gives, or 0 where it has no value
  abbrev pub ArgumentGives : Held → ℕ → Argument → Value → Type 0
  ArgumentGives held N (arguments.Register r) v = value_of held r ≡ Some v
  ArgumentGives held N (arguments.Literal z) v = v ≡ bits N (residue N z)
  ArgumentGives held N (arguments.Truth b) v = v ≡ bits N (if b then 1 else 0)
  ArgumentGives held N (arguments.Constant k) v = (n : Number) × (slice_get given.constants k ≡ Some n) × (v ≡ Bits n)
  ArgumentGives held N (arguments.Undef k) v = (n : Number) × (slice_get given.choices k ≡ Some n) × (v ≡ Bits n)
  ArgumentGives held N (arguments.Term n) v = v ≡ bits N (number_or_zero (value_at given.terms n))

  abbrev pub OperandGives : Held → Operand → Value → Type 0
  OperandGives held o v = (N : ℕ) × (slice_get typing o.class ≡ Some N) × ArgumentGives held N o.value v

  -- An instruction has its effect on what its operands give. It is one over the result's width N, a comparison one over
  -- the width of its operands, and a cast one from its operand's width to N. A freeze gives its operand's number, or
  -- its own where that is poison. A copy gives its operand.
  abbrev pub OpGives : Held → ℕ → Op → Effect → Type 0
  OpGives held N (Binary op flags a b) e = (x : Value) × (y : Value) × OperandGives held a x × OperandGives held b y × (e ≡ instruction op flags N x y)
  OpGives held N (Compare pred samesign a b) e =
      (M : ℕ) × (x : Value) × (y : Value)
      × (slice_get typing a.class ≡ Some M) × OperandGives held a x × OperandGives held b y × (e ≡ effects.Gives (comparison pred samesign M x y))
  OpGives held N (Unary op truth a) e = (x : Value) × OperandGives held a x × (e ≡ effects.Gives (unary op truth N x))
  OpGives held N (Select c a b) e =
      (z : Value) × (x : Value) × (y : Value)
      × OperandGives held c z × OperandGives held a x × OperandGives held b y × (e ≡ effects.Gives (selection z x y))
  OpGives held N (Convert cast flags a to) e =
      (M : ℕ) × (x : Value) × (slice_get typing a.class ≡ Some M) × OperandGives held a x × (e ≡ effects.Gives (conversion cast flags M N x))
  OpGives held N (Freeze a k) e = (x : Value) × (n : Number) × OperandGives held a x × (slice_get given.choices k ≡ Some n) × (e ≡ effects.Gives (frozen x n))
  OpGives held N (Copy a) e = (x : Value) × OperandGives held a x × (e ≡ effects.Gives x)

  abbrev pub StatementGives : Held → Statement → Effect → Type 0
  StatementGives held s e = (N : ℕ) × (slice_get typing s.class ≡ Some N) × OpGives held N s.op e

  -- the statements run in order, each result held for those behind it
  abbrev pub Follows : (Held → Value → Held) → List Statement → Held → Ending → Type 0
  Follows holding [] held end = end ≡ Holds held
  Follows holding (s ∷ statements) held end = (e : Effect) × StatementGives held s e × GoesOn (λ v. Follows holding statements (holding held v) end) e end

-- the source: its statements run in order; undefined behaviour of one is its effect, and else it gives the root
abbrev pub SourceGives : List ℕ → List Number → List Number → Rule → List Value → Effect → Type 0
SourceGives typing constants choices rule inputs e =
    (end : Ending)
    × Follows typing (given_by typing constants choices rule) holding_source rule.source (at_start inputs) end
    × Leads (λ held. GivesLast held.source) end e

-- how the source's temporaries end; no choice stands in them
abbrev pub TemporariesEnd : List ℕ → List Number → Rule → List Value → Ending → Type 0
TemporariesEnd typing constants rule inputs end =
    Follows typing (given_by typing constants [] rule) holding_source (temporaries_of rule) (at_start inputs) end

-- the target's own statements, from what is held: they run in order, with the same two ends
abbrev pub TargetGoesOn : List ℕ → List Number → List Number → Rule → Held → Effect → Type 0
TargetGoesOn typing constants choices rule held e =
    (end : Ending)
    × Follows typing (given_by typing constants choices rule) holding_target rule.target held end
    × Leads (λ after. GivesLast after.target) end e

-- the target: first the source's temporaries run in order, and then its own statements
abbrev pub TargetGives : List ℕ → List Number → List Number → Rule → List Value → Effect → Type 0
TargetGives typing constants choices rule inputs e =
    (end : Ending) × TemporariesEnd typing constants rule inputs end × Leads (TargetGoesOn typing constants choices rule) end e
