-- Name resolution: which rule a rule as written means, in which registers, constants, choices and terms are known by
-- place. It says nothing of classes.
use Rattle.std.specs.Prelude.{◌≡◌, ◌↔◌, ℕ, suc, ◌+◌, ◌-◌, ◌<◌, List, [], ◌∷◌, ◌++◌, length, map, flat_map, fold, sum_by, Some, Contains, slice_get}
use Rattle.std.specs.List.{AllZip}
use Rattle.rule_parse.specs.declared.raw.RawRule.{RawRule}
use Rattle.rule_parse.specs.declared.raw.RawStatement.{RawStatement}
use Rattle.rule_parse.specs.declared.raw.RawOp.{RawOp}
use Rattle.rule_parse.specs.declared.raw.RawOp.TheVariants as raw_ops
use Rattle.rule_parse.specs.declared.raw.RawOperand.{RawOperand}
use Rattle.rule_parse.specs.declared.raw.RawArgument.{RawArgument}
use Rattle.rule_parse.specs.declared.raw.RawArgument.TheVariants as raw_arguments
use Rattle.rule_terms.specs.declared.raw.RawNode.{RawNode}
use Rattle.rule_terms.specs.declared.raw.RawNode.TheVariants as raw_nodes
use Rattle.rule_terms.specs.declared.raw.RawFormula.{RawFormula}
use Rattle.rule_terms.specs.declared.raw.RawFormula.TheVariants as raw_formulas
use Rattle.rule_parse.specs.Contents.{arguments_of, arguments_among, formula_of, expressions_of, terms_of_formula, target_terms, terms_of}
use Rattle.rule_core.specs.declared.rule.Rule.{Rule}
use Rattle.rule_core.specs.declared.rule.Statement.{Statement}
use Rattle.rule_core.specs.declared.rule.Op.{Op}
use Rattle.rule_core.specs.declared.rule.Op.TheVariants as ops
use Rattle.rule_core.specs.declared.rule.Operand.{Operand}
use Rattle.rule_core.specs.declared.rule.Argument.{Argument}
use Rattle.rule_core.specs.declared.rule.Argument.TheVariants as arguments
use Rattle.rule_core.specs.declared.rule.Register.{Register}
use Rattle.rule_core.specs.declared.rule.Register.TheVariants as registers
use Rattle.rule_core.specs.declared.rule.Term.{Term}
use Rattle.rule_core.specs.declared.rule.Node.{Node}
use Rattle.rule_core.specs.declared.rule.Node.TheVariants as nodes
use Rattle.rule_core.specs.declared.rule.Formula.{Formula}
use Rattle.rule_core.specs.declared.rule.Formula.TheVariants as formulas
use Rattle.rule_core.specs.Checks.{AreDistinct}
use Rattle.rule_reader.specs.declared.names.Names.{Names}
use Rattle.rule_reader.specs.declared.counts.Counts.{Counts}

-- how many nodes terms have
abbrev pub nodes_in : List (List RawNode) → ℕ
nodes_in terms = sum_by length terms

-- ---- names

-- the statement uses the register: one of its operands is it
abbrev pub Uses : RawOp → List ℕ → Type 0
Uses op name = Contains (arguments_of op) (raw_arguments.Register name)

-- operand q of the statements, counted in the order of the text, is the register
abbrev pub UsesAt : List RawStatement → ℕ → List ℕ → Type 0
UsesAt statements q name = slice_get (arguments_among statements) q ≡ Some (raw_arguments.Register name)

-- statement k assigns the register
abbrev pub AssignsAt : List RawStatement → ℕ → List ℕ → Type 0
AssignsAt statements k name = slice_get (map (λ s. s.name) statements) k ≡ Some name

-- an input: a register that the source uses and none of its statements assigns
abbrev pub IsInput : List RawStatement → List ℕ → Type 0
IsInput source name = ((q : ℕ) × UsesAt source q name) × ((k : ℕ) → AssignsAt source k name → ⊥)

-- a temporary of the source: a register that a statement other than the last assigns
abbrev pub IsTemporary : List RawStatement → List ℕ → Type 0
IsTemporary source name = (k : ℕ) × (suc k < length source) × AssignsAt source k name

-- the root: the register that the last statement of the source assigns
abbrev pub IsRoot : List RawStatement → List ℕ → Type 0
IsRoot source name = (k : ℕ) × (suc k ≡ length source) × AssignsAt source k name

-- a constant: the source names it
abbrev pub IsConstant : List RawStatement → List ℕ → Type 0
IsConstant source name = (q : ℕ) × (slice_get (arguments_among source) q ≡ Some (raw_arguments.Constant name))

-- operand q gives the name, where Gives says which operand gives which
abbrev pub GivenAt : (RawArgument → List ℕ → Type 0) → List RawArgument → ℕ → List ℕ → Type 0
GivenAt Gives arguments q name = (a : RawArgument) × (slice_get arguments q ≡ Some a) × Gives a name

-- the names that operands give, each once, in order of first use
pub record AreFirstGiven (Gives : RawArgument → List ℕ → Type 0) (arguments : List RawArgument) (names : List (List ℕ)) : Type 0 where
  pub each : (name : List ℕ) → Contains names name ↔ ((q : ℕ) × GivenAt Gives arguments q name)
  pub once : AreDistinct names
  pub in_order : (h i q : ℕ) (m n : List ℕ) → h < i → slice_get names h ≡ Some m → slice_get names i ≡ Some n → GivenAt Gives arguments q n → (p : ℕ) × (p < q) × GivenAt Gives arguments p m

-- an argument gives an input where it is a register that no statement of the source assigns
abbrev pub GivesInput : List RawStatement → RawArgument → List ℕ → Type 0
GivesInput source a name = (a ≡ raw_arguments.Register name) × ((k : ℕ) → AssignsAt source k name → ⊥)

-- an operand gives a constant where it is one
abbrev pub GivesConstant : RawArgument → List ℕ → Type 0
GivesConstant a name = a ≡ raw_arguments.Constant name

-- the inputs of a source, each once, in the order of their first uses
abbrev pub AreInputs : List RawStatement → List (List ℕ) → Type 0
AreInputs source inputs = AreFirstGiven (GivesInput source) (arguments_among source) inputs

-- the constants of a source, each once, in the order of their first uses
abbrev pub AreConstants : List RawStatement → List (List ℕ) → Type 0
AreConstants source constants = AreFirstGiven GivesConstant (arguments_among source) constants

pub record AreNames (source : List RawStatement) (names : Names) : Type 0 where
  pub inputs : AreInputs source names.inputs
  pub constants : AreConstants source names.constants

-- ---- numbering choices and nodes of terms

-- the counts of choices and of nodes of terms behind an operand, from those before it
abbrev pub past : Counts → RawArgument → Counts
past before raw_arguments.Undef = record before { choices = before.choices + 1 }
past before (raw_arguments.Term t) = record before { nodes = before.nodes + length t }
past before argument = before

abbrev pub past_all : Counts → List RawArgument → Counts
past_all before arguments = fold past before arguments

-- the operands of a statement as they are counted: a freeze is one choice more, as an `undef` behind its operand
abbrev pub counted_of : RawOp → List RawArgument
counted_of (raw_ops.Freeze a) = a.value ∷ raw_arguments.Undef ∷ []
counted_of op = arguments_of op

abbrev pub counted_among : List RawStatement → List RawArgument
counted_among statements = flat_map (λ s. counted_of s.op) statements

-- at the beginning of a half nothing is counted
abbrev pub no_counts : Counts
no_counts = record { choices = 0; nodes = 0 }

-- the counts of a whole half
abbrev pub in_half : List RawStatement → Counts
in_half statements = past_all no_counts (counted_among statements)

-- statements, each with the counts before it in its half
abbrev pub with_counts : Counts → List RawStatement → List (Counts × RawStatement)
with_counts before [] = []
with_counts before (s ∷ statements) = (before, s) ∷ with_counts (past_all before (counted_of s.op)) statements

-- the nodes of all terms, each with the number of nodes before its term
abbrev pub with_nodes : ℕ → List (List RawNode) → List (ℕ × RawNode)
with_nodes before [] = []
with_nodes before (t ∷ terms) = map (λ node. (before, node)) t ++ with_nodes (before + length t) terms

-- the nodes of `Pre:`, each with the number of nodes of terms before its own terms
abbrev pub with_terms : ℕ → List RawFormula → List (ℕ × RawFormula)
with_terms before [] = []
with_terms before (f ∷ formula) = (before, f) ∷ with_terms (before + nodes_in (terms_of_formula f)) formula

-- the last node of each term
abbrev pub last_nodes : ℕ → List (List RawNode) → List ℕ
last_nodes before [] = []
last_nodes before (t ∷ terms) = (before + length t - 1) ∷ last_nodes (before + length t) terms

-- ---- the rule that is meant

-- Of a rule as written, whose inputs and constants these are:
module _ (raw : RawRule) (names : Names) where
  -- a register has a name: that of the input, or the one that the statement assigns
  abbrev pub HasName : Register → List ℕ → Type 0
  HasName (registers.Input k) name = slice_get names.inputs k ≡ Some name
  HasName (registers.Source k) name = AssignsAt raw.source k name
  HasName (registers.Target k) name = AssignsAt raw.target k name

  abbrev pub IsConstantOf : ℕ → List ℕ → Type 0
  IsConstantOf k name = slice_get names.constants k ≡ Some name

  -- A name means the register or the constant of that name, a literal or a truth value itself, an `undef` the choice
  -- whose number is the count before it, and a term its last node.
  abbrev pub ArgumentMeans : Counts → RawArgument → Argument → Type 0
  ArgumentMeans before (raw_arguments.Register name) (arguments.Register r) = HasName r name
  ArgumentMeans before (raw_arguments.Literal z) (arguments.Literal number) = number ≡ z
  ArgumentMeans before (raw_arguments.Truth b) (arguments.Truth truth) = truth ≡ b
  ArgumentMeans before (raw_arguments.Constant name) (arguments.Constant k) = IsConstantOf k name
  ArgumentMeans before raw_arguments.Undef (arguments.Undef k) = k ≡ before.choices
  ArgumentMeans before (raw_arguments.Term t) (arguments.Term n) = suc n ≡ before.nodes + length t
  ArgumentMeans before written argument = ⊥

  -- the type that is written before an operand is kept
  abbrev pub OperandMeans : Counts → RawOperand → Operand → Type 0
  OperandMeans before operand o = (o.written ≡ operand.written) × ArgumentMeans before operand.value o.value

  abbrev pub OpMeans : Counts → RawOp → Op → Type 0
  OpMeans before (raw_ops.Binary op flags a b) (ops.Binary op' flags' x y) =
      (op' ≡ op) × (flags' ≡ flags) × OperandMeans before a x × OperandMeans (past before a.value) b y
  OpMeans before (raw_ops.Compare pred samesign a b) (ops.Compare pred' samesign' x y) =
      (pred' ≡ pred) × (samesign' ≡ samesign) × OperandMeans before a x × OperandMeans (past before a.value) b y
  OpMeans before (raw_ops.Unary op truth a) (ops.Unary op' truth' x) = (op' ≡ op) × (truth' ≡ truth) × OperandMeans before a x
  OpMeans before (raw_ops.Select c a b) (ops.Select z x y) =
      OperandMeans before c z × OperandMeans (past before c.value) a x × OperandMeans (past (past before c.value) a.value) b y
  OpMeans before (raw_ops.Convert cast flags a to) (ops.Convert cast' flags' x to') =
      (cast' ≡ cast) × (flags' ≡ flags) × OperandMeans before a x × (to' ≡ to)
  -- a freeze is the choice behind those of its operand
  OpMeans before (raw_ops.Freeze a) (ops.Freeze x k) = OperandMeans before a x × (k ≡ (past before a.value).choices)
  OpMeans before (raw_ops.Copy a) (ops.Copy x) = OperandMeans before a x
  OpMeans before raw_op op = ⊥

  abbrev pub StatementMeans : Counts → RawStatement → Statement → Type 0
  StatementMeans before written s = (s.name ≡ written.name) × OpMeans before written.op s.op

  -- the statements of a half
  abbrev pub HalfMeans : List RawStatement → List Statement → Type 0
  HalfMeans written statements = AllZip (λ w s. StatementMeans w.0 w.1 s) (with_counts no_counts written) statements

  -- an operand of a node is moved by the number of nodes before the term
  abbrev pub NodeMeans : ℕ → RawNode → Node → Type 0
  NodeMeans before (raw_nodes.Literal z) (nodes.Literal number) = number ≡ z
  NodeMeans before (raw_nodes.Constant name) (nodes.Constant k) = IsConstantOf k name
  NodeMeans before (raw_nodes.Register name) (nodes.Register r) = HasName r name
  NodeMeans before (raw_nodes.Choice j) (nodes.Choice k) = k ≡ j
  NodeMeans before (raw_nodes.Width name) (nodes.Width r class) = HasName r name
  NodeMeans before (raw_nodes.Unary f a) (nodes.Unary f' x) = (f' ≡ f) × (x ≡ before + a)
  NodeMeans before (raw_nodes.Binary op a b) (nodes.Binary op' x y) = (op' ≡ op) × (x ≡ before + a) × (y ≡ before + b)
  NodeMeans before written node = ⊥

  -- the nodes of terms, one term behind the other
  abbrev pub TermsMean : List (List RawNode) → List Term → Type 0
  TermsMean written terms = AllZip (λ w t. NodeMeans w.0 w.1 t.node) (with_nodes 0 written) terms

  -- a term of `Pre:` is known by its last node
  abbrev pub FormulaMeans : ℕ → RawFormula → Formula → Type 0
  FormulaMeans before (raw_formulas.Compare pred a b) (formulas.Compare pred' x y) =
      (pred' ≡ pred) × (suc x ≡ before + length a) × (suc y ≡ before + length a + length b)
  FormulaMeans before (raw_formulas.IsPowerOfTwo a) (formulas.IsPowerOfTwo x) = suc x ≡ before + length a
  FormulaMeans before (raw_formulas.IsSignBit a) (formulas.IsSignBit x) = suc x ≡ before + length a
  FormulaMeans before (raw_formulas.HasOneUse name) (formulas.HasOneUse k) = AssignsAt raw.source k name
  FormulaMeans before (raw_formulas.MaskedValueIsZero name a) (formulas.MaskedValueIsZero r x) = HasName r name × (suc x ≡ before + length a)
  FormulaMeans before (raw_formulas.IsKnownNonZero name) (formulas.IsKnownNonZero r) = HasName r name
  FormulaMeans before (raw_formulas.Not a) (formulas.Not x) = x ≡ a
  FormulaMeans before (raw_formulas.And a b) (formulas.And x y) = (x ≡ a) × (y ≡ b)
  FormulaMeans before (raw_formulas.Or a b) (formulas.Or x y) = (x ≡ a) × (y ≡ b)
  FormulaMeans before written formula = ⊥

  -- the nodes of `Pre:`, whose terms come behind those of the target
  abbrev pub PreconditionMeans : List RawFormula → List Formula → Type 0
  PreconditionMeans written formula = AllZip (λ w f. FormulaMeans w.0 w.1 f) (with_terms (nodes_in (target_terms raw)) written) formula

-- the names of a rule's inputs and constants
abbrev pub names_of_rule : Rule → Names
names_of_rule rule = record { inputs = rule.inputs; constants = rule.constants }

-- the rule is the one that the rule as written means
pub record Means (raw : RawRule) (rule : Rule) : Type 0 where
  pub name : rule.name ≡ raw.name
  pub names : AreNames raw.source (names_of_rule rule)
  pub source : HalfMeans raw (names_of_rule rule) raw.source rule.source
  pub target : HalfMeans raw (names_of_rule rule) raw.target rule.target
  pub terms : TermsMean raw (names_of_rule rule) (terms_of raw) rule.terms
  pub precondition : PreconditionMeans raw (names_of_rule rule) (formula_of raw) rule.precondition
  pub witness_terms : TermsMean raw (names_of_rule rule) (expressions_of raw) rule.witness_terms
  pub witnesses : rule.witnesses ≡ last_nodes 0 (expressions_of raw)
