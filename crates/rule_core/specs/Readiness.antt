-- What lets a run go on: each register that the next statement reads holds a value of the right width.
use Rattle.std.specs.Prelude.{◌≡◌, ℕ, List, [], length, take, Option, None, Some, slice_get}
use Rattle.ops.specs.Number.{Number}
use Rattle.ops.specs.Conversion.{CastFits}
use Rattle.ops.specs.Flags.{FlagsFit}
use Rattle.ops.specs.Value.{IsValueOf}
use Rattle.ops.specs.declared.value.Value.{Value}
use Rattle.ops.specs.declared.value.Value.TheVariants.{Bits}
use Rattle.rule_core.specs.declared.rule.Rule.{Rule}
use Rattle.rule_core.specs.declared.rule.Statement.{Statement}
use Rattle.rule_core.specs.declared.rule.Op.{Op}
use Rattle.rule_core.specs.declared.rule.Op.TheVariants.{Binary, Compare, Unary, Select, Convert, Freeze, Copy}
use Rattle.rule_core.specs.declared.rule.Operand.{Operand}
use Rattle.rule_core.specs.declared.rule.Argument.{Argument}
use Rattle.rule_core.specs.declared.rule.Argument.TheVariants as arguments
use Rattle.rule_core.specs.declared.run.Held.{Held as View}
use Rattle.rule_core.specs.declared.run.Given.{Given as GivenView}
use Rattle.rule_core.specs.Run.{Held, Undefines, Holds, Given, value_of, at_start, holding_source, holding_target, Follows}
use Rattle.rule_core.specs.declared.rule.Term.{Term}
use Rattle.rule_core.specs.declared.rule.Node.{Node}
use Rattle.rule_core.specs.declared.rule.Node.TheVariants as nodes
use Rattle.rule_core.specs.Positions.{LeavesOpen}
use Rattle.rule_core.specs.Valid.{InputsFit, ConstantsFit}

-- the registers of the code's view, as the definitions have them
abbrev pub seen : View → Held
seen held = record { inputs = held.inputs.now; source = held.source.now; target = held.target.now }

-- constants, choices and terms of the code's view, as the definitions have them
abbrev pub shown : GivenView → Given
shown given = record { constants = given.constants.now; choices = given.choices.now; terms = given.terms.now }

-- choice k has a number, and it is of the width N
abbrev pub ChoiceIsReady : Given → ℕ → ℕ → Type 0
ChoiceIsReady given N k = (n : Number) × (slice_get given.choices k ≡ Some n) × IsValueOf N (Bits n)

-- the operand has a value of the width N
abbrev pub ArgumentIsReady : Given → Held → ℕ → Argument → Type 0
ArgumentIsReady given held N (arguments.Register r) = (v : Value) × (value_of held r ≡ Some v) × IsValueOf N v
ArgumentIsReady given held N (arguments.Literal z) = Unit {0}
ArgumentIsReady given held N (arguments.Truth b) = N ≡ 1
ArgumentIsReady given held N (arguments.Constant k) = (n : Number) × (slice_get given.constants k ≡ Some n) × IsValueOf N (Bits n)
ArgumentIsReady given held N (arguments.Undef k) = ChoiceIsReady given N k
ArgumentIsReady given held N (arguments.Term n) = (v : Value) × (slice_get given.terms n ≡ Some v) × IsValueOf N v

abbrev pub OperandIsReady : List ℕ → Given → Held → ℕ → Operand → Type 0
OperandIsReady typing given held N o = (slice_get typing o.class ≡ Some N) × ArgumentIsReady given held N o.value

abbrev pub OpIsReady : List ℕ → Given → Held → ℕ → Op → Type 0
OpIsReady typing given held N (Binary op flags a b) = FlagsFit op flags × OperandIsReady typing given held N a × OperandIsReady typing given held N b
OpIsReady typing given held N (Compare pred samesign a b) = (M : ℕ) × OperandIsReady typing given held M a × OperandIsReady typing given held M b × (N ≡ 1)
OpIsReady typing given held N (Unary op truth a) = OperandIsReady typing given held N a
OpIsReady typing given held N (Select c a b) = OperandIsReady typing given held 1 c × OperandIsReady typing given held N a × OperandIsReady typing given held N b
OpIsReady typing given held N (Convert cast flags a to) = (M : ℕ) × OperandIsReady typing given held M a × CastFits cast M N
OpIsReady typing given held N (Freeze a k) = OperandIsReady typing given held N a × ChoiceIsReady given N k
OpIsReady typing given held N (Copy a) = OperandIsReady typing given held N a

abbrev pub StatementIsReady : List ℕ → Given → Held → Statement → Type 0
StatementIsReady typing given held s = (N : ℕ) × (slice_get typing s.class ≡ Some N) × OpIsReady typing given held N s.op

-- what statements have assigned are values of their results' widths
abbrev pub ValuesFit : List ℕ → List Statement → List Value → Type 0
ValuesFit typing statements values =
    (k : ℕ) (s : Statement) (v : Value) (N : ℕ) →
    slice_get statements k ≡ Some s → slice_get values k ≡ Some v → slice_get typing s.class ≡ Some N → IsValueOf N v

-- every register that is assigned holds a value of its width
pub record HeldFits (rule : Rule) (typing : List ℕ) (held : Held) : Type 0 where
  pub inputs : InputsFit rule typing held.inputs
  pub source : ValuesFit typing rule.source held.source
  pub target : ValuesFit typing rule.target held.target

-- the first `count` statements of the source have run: to undefined behaviour, or to these values
abbrev pub SourceRan : List ℕ → Given → Rule → List Value → ℕ → Option (List Value) → Type 0
SourceRan typing given rule inputs count None =
    Follows typing given holding_source (take count rule.source) (at_start inputs) Undefines
SourceRan typing given rule inputs count (Some values) =
    (length values ≡ count) × ValuesFit typing rule.source values
    × Follows typing given holding_source (take count rule.source) (at_start inputs) (Holds (record { inputs = inputs; source = values; target = [] }))

-- the target's statements have run after the source's gave these values: to undefined behaviour, or to these of their
-- own
abbrev pub TargetRan : List ℕ → Given → Rule → List Value → List Value → Option (List Value) → Type 0
TargetRan typing given rule inputs source None =
    Follows typing given holding_target rule.target (record { inputs = inputs; source = source; target = [] }) Undefines
TargetRan typing given rule inputs source (Some values) =
    (length values ≡ length rule.target)
    × Follows typing given holding_target rule.target (record { inputs = inputs; source = source; target = [] }) (Holds (record { inputs = inputs; source = source; target = values }))

-- what the nodes of terms give are values of their widths
abbrev pub TermsFit : List ℕ → List Term → List Value → Type 0
TermsFit typing terms values =
    (k : ℕ) (t : Term) (v : Value) (N : ℕ) →
    slice_get terms k ≡ Some t → slice_get values k ≡ Some v → slice_get typing t.class ≡ Some N → IsValueOf N v

-- What statements of a half read beside registers is there, of its width: constants, the choices of these statements,
-- and terms.
pub record GivenFits (rule : Rule) (typing : List ℕ) (statements : List Statement) (given : Given) : Type 0 where
  pub constants : ConstantsFit rule typing given.constants
  pub choices : (k c N : ℕ) → LeavesOpen statements k c → slice_get typing c ≡ Some N → ChoiceIsReady given N k
  pub terms : (length given.terms ≡ length rule.terms) × TermsFit typing rule.terms given.terms

-- what evaluating a node of iN of a constant term needs, where the nodes before it give these values
abbrev pub NodeIsReady : List ℕ → List Number → List Value → ℕ → Node → Type 0
NodeIsReady typing constants before N (nodes.Literal z) = Unit {0}
NodeIsReady typing constants before N (nodes.Constant k) = (n : Number) × (slice_get constants k ≡ Some n) × IsValueOf N (Bits n)
NodeIsReady typing constants before N (nodes.Register r) = ⊥
NodeIsReady typing constants before N (nodes.Choice k) = ⊥
NodeIsReady typing constants before N (nodes.Width r c) = (M : ℕ) × (slice_get typing c ≡ Some M)
NodeIsReady typing constants before N (nodes.Unary function a) = (v : Value) × (slice_get before a ≡ Some v) × IsValueOf N v
NodeIsReady typing constants before N (nodes.Binary op a b) =
    (v : Value) × (w : Value) × (slice_get before a ≡ Some v) × (slice_get before b ≡ Some w) × IsValueOf N v × IsValueOf N w

-- a constant term's next node can be evaluated
abbrev pub TermIsReady : List ℕ → List Number → List Value → Term → Type 0
TermIsReady typing constants before t = (N : ℕ) × (slice_get typing t.class ≡ Some N) × NodeIsReady typing constants before N t.node
