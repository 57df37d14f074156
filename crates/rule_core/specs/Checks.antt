-- What a rule that was read meets: a field for each kind of fault that its text could have had.
use Rattle.std.specs.Prelude.{◌≡◌, ℕ, suc, ◌+◌, ◌<◌, ◌≤◌, List, length, Some, Contains, slice_get, map, sum_by}
use Rattle.std.specs.List.{range_with_len}
use Rattle.ops.specs.Flags.{FlagsFit, CastFlagsFit}
use Rattle.ops.specs.Truths.{TruthFits}
use Rattle.rule_core.specs.declared.rule.Rule.{Rule}
use Rattle.rule_core.specs.declared.rule.Statement.{Statement}
use Rattle.rule_core.specs.declared.rule.Op.{Op}
use Rattle.rule_core.specs.declared.rule.Op.TheVariants.{Binary, Unary, Convert, Freeze, Copy}
use Rattle.rule_core.specs.declared.rule.Operand.{Operand}
use Rattle.rule_core.specs.declared.rule.Argument.{Argument}
use Rattle.rule_core.specs.declared.rule.Argument.TheVariants as arguments
use Rattle.rule_core.specs.declared.rule.Register.{Register}
use Rattle.rule_core.specs.declared.rule.Register.TheVariants as registers
use Rattle.rule_core.specs.declared.rule.Term.{Term}
use Rattle.rule_core.specs.declared.rule.Node.{Node}
use Rattle.rule_core.specs.declared.rule.Node.TheVariants as nodes
use Rattle.rule_core.specs.declared.rule.Formula.{Formula}
use Rattle.rule_core.specs.declared.rule.Formula.TheVariants as formulas
use Rattle.rule_core.specs.Positions.{operands_of, operands_among, operands_in, terms_in, choices_among}
use Rattle.rule_core.specs.FormulaNodes.{joint_of, OuterIsOutermost}
use Rattle.rule_core.specs.TermNodes.{NamesWidth, AreLastNodes}

-- source statement k may read inputs, what earlier source statements assign, and constants; the root's may read `undef`
abbrev pub SourceMayRead : Rule → ℕ → Argument → Type 0
SourceMayRead rule k (arguments.Register (registers.Input i)) = i < length rule.inputs
SourceMayRead rule k (arguments.Register (registers.Source j)) = j < k
SourceMayRead rule k (arguments.Register (registers.Target j)) = ⊥
SourceMayRead rule k (arguments.Literal z) = Unit {0}
SourceMayRead rule k (arguments.Truth b) = Unit {0}
SourceMayRead rule k (arguments.Constant j) = j < length rule.constants
SourceMayRead rule k (arguments.Undef j) = suc k ≡ length rule.source
SourceMayRead rule k (arguments.Term n) = ⊥

-- target statement k may read inputs, what source statements but the root's assign, what earlier target statements
-- assign, constants, `undef` and terms
abbrev pub TargetMayRead : Rule → ℕ → Argument → Type 0
TargetMayRead rule k (arguments.Register (registers.Input i)) = i < length rule.inputs
TargetMayRead rule k (arguments.Register (registers.Source j)) = suc j < length rule.source
TargetMayRead rule k (arguments.Register (registers.Target j)) = j < k
TargetMayRead rule k (arguments.Literal z) = Unit {0}
TargetMayRead rule k (arguments.Truth b) = Unit {0}
TargetMayRead rule k (arguments.Constant j) = j < length rule.constants
TargetMayRead rule k (arguments.Undef j) = Unit {0}
TargetMayRead rule k (arguments.Term n) = n < length rule.terms

-- a register that the precondition and `Wit:` may name: an input, or what a source statement but the root's assigns
abbrev pub IsBeforeRoot : Rule → Register → Type 0
IsBeforeRoot rule (registers.Input i) = i < length rule.inputs
IsBeforeRoot rule (registers.Source j) = suc j < length rule.source
IsBeforeRoot rule (registers.Target j) = ⊥

-- a register of which a target statement may name the width: an input, a source temporary, or what a target statement
-- but the root's assigns
abbrev pub HasKnownWidth : Rule → Register → Type 0
HasKnownWidth rule (registers.Input i) = i < length rule.inputs
HasKnownWidth rule (registers.Source j) = suc j < length rule.source
HasKnownWidth rule (registers.Target j) = suc j < length rule.target

-- node n of the constant terms may be this one: its operands are earlier nodes, it holds no register's value and no
-- choice, and `width( )` is of a register whose width is known
abbrev pub MayBeTerm : Rule → ℕ → Node → Type 0
MayBeTerm rule n (nodes.Literal z) = Unit {0}
MayBeTerm rule n (nodes.Constant k) = k < length rule.constants
MayBeTerm rule n (nodes.Register r) = ⊥
MayBeTerm rule n (nodes.Choice k) = ⊥
MayBeTerm rule n (nodes.Width r c) = HasKnownWidth rule r
MayBeTerm rule n (nodes.Unary function a) = a < n
MayBeTerm rule n (nodes.Binary op a b) = (a < n) × (b < n)

-- the registers whose widths a term of target statement k names are ones that the statement may read
abbrev pub TargetMayMeasure : Rule → ℕ → Argument → Type 0
TargetMayMeasure rule k (arguments.Term n) = (r : Register) → NamesWidth rule.terms n r → TargetMayRead rule k (arguments.Register r)
TargetMayMeasure rule k argument = Unit {0}

-- the registers whose widths a term of the precondition names are inputs or source temporaries
abbrev pub MeasuresBeforeRoot : Rule → ℕ → Type 0
MeasuresBeforeRoot rule n = (r : Register) → NamesWidth rule.terms n r → IsBeforeRoot rule r

abbrev pub FormulaMayMeasure : Rule → Formula → Type 0
FormulaMayMeasure rule (formulas.Compare pred a b) = MeasuresBeforeRoot rule a × MeasuresBeforeRoot rule b
FormulaMayMeasure rule (formulas.IsPowerOfTwo a) = MeasuresBeforeRoot rule a
FormulaMayMeasure rule (formulas.IsSignBit a) = MeasuresBeforeRoot rule a
FormulaMayMeasure rule (formulas.MaskedValueIsZero r a) = MeasuresBeforeRoot rule a
FormulaMayMeasure rule formula = Unit {0}

-- node n of the expressions of `Wit:` may be this one
abbrev pub MayBeWitness : Rule → ℕ → Node → Type 0
MayBeWitness rule n (nodes.Literal z) = Unit {0}
MayBeWitness rule n (nodes.Constant k) = k < length rule.constants
MayBeWitness rule n (nodes.Register r) = IsBeforeRoot rule r
MayBeWitness rule n (nodes.Choice k) = k < length (choices_among rule.target)
MayBeWitness rule n (nodes.Width r c) = IsBeforeRoot rule r
MayBeWitness rule n (nodes.Unary function a) = a < n
MayBeWitness rule n (nodes.Binary op a b) = (a < n) × (b < n)

-- and node n of the precondition: its operands are earlier nodes, or constant terms, one use is asked of a source's
-- temporary, and bits are known of an input or of a source's temporary
abbrev pub MayBeFormula : Rule → ℕ → Formula → Type 0
MayBeFormula rule n (formulas.Compare pred a b) = (a < length rule.terms) × (b < length rule.terms)
MayBeFormula rule n (formulas.IsPowerOfTwo a) = a < length rule.terms
MayBeFormula rule n (formulas.IsSignBit a) = a < length rule.terms
MayBeFormula rule n (formulas.HasOneUse j) = suc j < length rule.source
MayBeFormula rule n (formulas.MaskedValueIsZero r a) = IsBeforeRoot rule r × (a < length rule.terms)
MayBeFormula rule n (formulas.IsKnownNonZero r) = IsBeforeRoot rule r
MayBeFormula rule n (formulas.Not a) = a < n
MayBeFormula rule n (formulas.And a b) = (a < n) × (b < n)
MayBeFormula rule n (formulas.Or a b) = (a < n) × (b < n)

-- the flags that are written are ones that the instruction takes, and so is the truth value of an intrinsic
abbrev pub FlagsFitOp : Op → Type 0
FlagsFitOp (Binary op flags a b) = FlagsFit op flags
FlagsFitOp (Unary op truth a) = TruthFits op truth
FlagsFitOp (Convert cast flags a to) = CastFlagsFit cast flags
FlagsFitOp op = Unit {0}

-- an operation that source statement k may be: a freeze where that is the root's, and no copy
abbrev pub MayStandInSource : Rule → ℕ → Op → Type 0
MayStandInSource rule k (Freeze a j) = suc k ≡ length rule.source
MayStandInSource rule k (Copy a) = ⊥
MayStandInSource rule k op = Unit {0}

abbrev pub IsNoUndef : Argument → Type 0
IsNoUndef argument = (k : ℕ) → argument ≡ arguments.Undef k → ⊥

-- a freeze is of no `undef`, which it would leave as it is; nor is a copy, since each use of the root would then differ
abbrev pub ReadsNoUndefAlone : Op → Type 0
ReadsNoUndefAlone (Freeze a k) = IsNoUndef a.value
ReadsNoUndefAlone (Copy a) = IsNoUndef a.value
ReadsNoUndefAlone op = Unit {0}

-- the choices of a half are numbered from 0, in the order of the text
abbrev pub ChoicesInOrder : List Statement → Type 0
ChoicesInOrder statements = map (λ c. c.place) (choices_among statements) ≡ range_with_len 0 (length (choices_among statements))

-- how many of the 256 operands, names, literals, operators and functions of a rule an operand counts as: none where it
-- is a term, whose nodes count instead
abbrev pub argument_weight : Argument → ℕ
argument_weight (arguments.Term n) = 0
argument_weight argument = 1

-- a node counts once, and `width( )` once more for its register
abbrev pub node_weight : Node → ℕ
node_weight (nodes.Width r c) = 2
node_weight node = 1

abbrev pub term_weight : Term → ℕ
term_weight t = node_weight t.node

abbrev pub formula_weight : Formula → ℕ
formula_weight (formulas.HasOneUse j) = 2
formula_weight (formulas.MaskedValueIsZero r a) = 2
formula_weight (formulas.IsKnownNonZero r) = 2
formula_weight formula = 1

-- what a whole rule counts as
abbrev pub weight_of : Rule → ℕ
weight_of rule = sum_by (λ o. argument_weight o.value) (operands_in rule) + sum_by term_weight (terms_in rule) + sum_by formula_weight rule.precondition

-- no two of the names are equal
abbrev pub AreDistinct : List (List ℕ) → Type 0
AreDistinct names = (j k : ℕ) (name : List ℕ) → slice_get names j ≡ Some name → slice_get names k ≡ Some name → j ≡ k

-- the names that a half's statements assign
abbrev pub names_of : List Statement → List (List ℕ)
names_of statements = map (λ s. s.name) statements

-- what a statement of the half reads, the half being a list of statements and `MayRead k` what statement k may read
abbrev pub ReadsOnly : (ℕ → Argument → Type 0) → List Statement → Type 0
ReadsOnly MayRead statements =
    (k : ℕ) (s : Statement) (o : Operand) → slice_get statements k ≡ Some s → Contains (operands_of s.op) o → MayRead k o.value

-- operand q of the source, in the order of the text, is this
abbrev pub StandsAt : Rule → ℕ → Argument → Type 0
StandsAt rule q argument = (o : Operand) × (slice_get (operands_among rule.source) q ≡ Some o) × (o.value ≡ argument)

-- operand q of the source is the register
abbrev pub ReadsAt : Rule → ℕ → Register → Type 0
ReadsAt rule q r = StandsAt rule q (arguments.Register r)

-- the rule meets each check
pub record IsRule (rule : Rule) : Type 0 where
  -- TooMany: at most 32 statements a half, 256 operands, names, literals, operators and functions, and 200 bytes a name
  pub few_in_source : length rule.source ≤ 32
  pub few_in_target : length rule.target ≤ 32
  pub few_nodes : weight_of rule ≤ 256
  pub short_name : length rule.name ≤ 200
  pub short_inputs : (name : List ℕ) → Contains rule.inputs name → length name ≤ 200
  pub short_constants : (name : List ℕ) → Contains rule.constants name → length name ≤ 200
  pub short_in_source : (name : List ℕ) → Contains (names_of rule.source) name → length name ≤ 200
  pub short_in_target : (name : List ℕ) → Contains (names_of rule.target) name → length name ≤ 200
  -- Duplicate: no half assigns a register twice
  pub source_names : AreDistinct (names_of rule.source)
  pub target_names : AreDistinct (names_of rule.target)
  -- Unbound: each register that is read is there
  pub source_reads : ReadsOnly (SourceMayRead rule) rule.source
  pub target_reads : ReadsOnly (TargetMayRead rule) rule.target
  -- inputs are registers that the source reads and does not assign, each of them once
  pub inputs_distinct : AreDistinct rule.inputs
  pub inputs_not_assigned : (name : List ℕ) → Contains rule.inputs name → Contains (names_of rule.source) name → ⊥
  pub inputs_read : (i : ℕ) → i < length rule.inputs → (q : ℕ) × ReadsAt rule q (registers.Input i)
  -- and in the order in which the source first reads them
  pub inputs_in_order : (h i q : ℕ) → h < i → ReadsAt rule q (registers.Input i) → (p : ℕ) × (p < q) × ReadsAt rule p (registers.Input h)
  -- constants stand in the source, each of them once, in the order in which the source first reads them
  pub constants_distinct : AreDistinct rule.constants
  pub constants_read : (k : ℕ) → k < length rule.constants → (q : ℕ) × StandsAt rule q (arguments.Constant k)
  pub constants_in_order : (h k q : ℕ) → h < k → StandsAt rule q (arguments.Constant k) → (p : ℕ) × (p < q) × StandsAt rule p (arguments.Constant h)
  -- what terms and the precondition name is there
  pub terms : (n : ℕ) (t : Term) → slice_get rule.terms n ≡ Some t → MayBeTerm rule n t.node
  pub witness_terms : (n : ℕ) (t : Term) → slice_get rule.witness_terms n ≡ Some t → MayBeWitness rule n t.node
  pub precondition : (n : ℕ) (f : Formula) → slice_get rule.precondition n ≡ Some f → MayBeFormula rule n f
  -- and may be named where it stands
  pub target_widths : ReadsOnly (TargetMayMeasure rule) rule.target
  pub precondition_widths : (n : ℕ) (f : Formula) → slice_get rule.precondition n ≡ Some f → FormulaMayMeasure rule f
  -- RootMissing: there is a root, and the last target statement assigns it
  pub source_root : 0 < length rule.source
  pub target_root : 0 < length rule.target
  pub root : (j k : ℕ) (s t : Statement) → suc j ≡ length rule.source → slice_get rule.source j ≡ Some s → suc k ≡ length rule.target → slice_get rule.target k ≡ Some t → t.name ≡ s.name
  -- Redefines: the target assigns no input and no source temporary
  pub inputs_stay : (name : List ℕ) → Contains rule.inputs name → Contains (names_of rule.target) name → ⊥
  pub temporaries_stay : (j : ℕ) (s : Statement) → suc j < length rule.source → slice_get rule.source j ≡ Some s → Contains (names_of rule.target) s.name → ⊥
  -- UnusedTemp: the source reads each of its temporaries, which only later statements may
  pub temporaries_read : (j : ℕ) → suc j < length rule.source → (q : ℕ) × ReadsAt rule q (registers.Source j)
  -- the grammar: `hasOneUse`, and what is said of bits, stand as members of the outermost `&&` alone
  pub outer : OuterIsOutermost (map joint_of rule.precondition)
  -- the source has no copies, and a freeze at its root alone; flags are those that the opcode takes
  pub source_ops : (k : ℕ) (s : Statement) → slice_get rule.source k ≡ Some s → MayStandInSource rule k s.op
  pub source_flags : (k : ℕ) (s : Statement) → slice_get rule.source k ≡ Some s → FlagsFitOp s.op
  pub target_flags : (k : ℕ) (s : Statement) → slice_get rule.target k ≡ Some s → FlagsFitOp s.op
  -- UndefInside: each `undef` and each freeze is one choice of its half, and `undef` is neither frozen nor copied
  pub source_choices : ChoicesInOrder rule.source
  pub target_choices : ChoicesInOrder rule.target
  pub source_undefs : (k : ℕ) (s : Statement) → slice_get rule.source k ≡ Some s → ReadsNoUndefAlone s.op
  pub target_undefs : (k : ℕ) (s : Statement) → slice_get rule.target k ≡ Some s → ReadsNoUndefAlone s.op
  -- WitnessCount: `Wit:` has an expression for each choice of the source
  pub witnesses : length rule.witnesses ≡ length (choices_among rule.source)
  pub witnesses_there : (k n : ℕ) → slice_get rule.witnesses k ≡ Some n → n < length rule.witness_terms
  -- the expressions stand one behind the other; each is known by its last node
  pub witnesses_last : AreLastNodes rule.witness_terms 0 rule.witnesses
