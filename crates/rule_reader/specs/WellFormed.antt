-- What the parser ensures of a rule as written: the form that the grammar gives it, and the limits.
use Rattle.std.specs.Prelude.{◌≡◌, ℕ, ◌<◌, ◌≤◌, List, length, map, Some, Contains, slice_get}
use Rattle.ops.specs.Flags.{FlagsFit, CastFlagsFit}
use Rattle.ops.specs.Truths.{TruthFits}
use Rattle.rule_core.specs.FormulaNodes.{Joint, Outer, Single, Turns, Both, Either, OuterIsOutermost}
use Rattle.rule_parse.specs.declared.raw.RawRule.{RawRule}
use Rattle.rule_parse.specs.declared.raw.RawPrecondition.{RawPrecondition}
use Rattle.rule_parse.specs.declared.raw.RawWitness.{RawWitness}
use Rattle.rule_parse.specs.declared.raw.RawStatement.{RawStatement}
use Rattle.rule_parse.specs.declared.raw.RawOp.{RawOp}
use Rattle.rule_parse.specs.declared.raw.RawOp.TheVariants as raw_ops
use Rattle.rule_parse.specs.declared.raw.RawArgument.TheVariants as raw_arguments
use Rattle.rule_terms.specs.declared.raw.RawNode.{RawNode}
use Rattle.rule_terms.specs.declared.raw.RawNode.TheVariants as raw_nodes
use Rattle.rule_terms.specs.declared.raw.RawFormula.{RawFormula}
use Rattle.rule_terms.specs.declared.raw.RawFormula.TheVariants as raw_formulas
use Rattle.rule_terms.specs.Nodes.{IsBehindOperands}
use Rattle.rule_parse.specs.Contents.{arguments_of, formula_of, terms_of, expressions_of}
use Rattle.rule_reader.specs.Meaning.{Uses}
use Rattle.rule_parse.specs.Weight.{raw_weight}

-- no statement stands on an earlier line than one before it
abbrev pub AreInLineOrder : List RawStatement → Type 0
AreInLineOrder statements = (j k : ℕ) (s t : RawStatement) → j < k → slice_get statements j ≡ Some s → slice_get statements k ≡ Some t → s.line ≤ t.line

-- all operations but copies
abbrev pub MayStandInSource : RawOp → Type 0
MayStandInSource (raw_ops.Copy a) = ⊥
MayStandInSource op = Unit {0}

-- the flags that are written are ones that the instruction takes
abbrev pub FlagsFitOp : RawOp → Type 0
FlagsFitOp (raw_ops.Binary op flags a b) = FlagsFit op flags
FlagsFitOp (raw_ops.Unary op truth a) = TruthFits op truth
FlagsFitOp (raw_ops.Convert cast flags a to) = CastFlagsFit cast flags
FlagsFitOp op = Unit {0}

-- a half: 1 to 32 statements in order of lines, names of at most 200 bytes, and flags that fit
pub record IsHalf (statements : List RawStatement) : Type 0 where
  pub some : 0 < length statements
  pub few : length statements ≤ 32
  pub in_order : AreInLineOrder statements
  pub short_names : (k : ℕ) (s : RawStatement) → slice_get statements k ≡ Some s → length s.name ≤ 200
  pub short_uses : (k : ℕ) (s : RawStatement) (name : List ℕ) → slice_get statements k ≡ Some s → Uses s.op name → length name ≤ 200
  pub short_constants : (k : ℕ) (s : RawStatement) (name : List ℕ) → slice_get statements k ≡ Some s → Contains (arguments_of s.op) (raw_arguments.Constant name) → length name ≤ 200
  pub flags_fit : (k : ℕ) (s : RawStatement) → slice_get statements k ≡ Some s → FlagsFitOp s.op

-- a term has a node or more, each behind its operands
pub record IsTerm (term : List RawNode) : Type 0 where
  pub some : 0 < length term
  pub each : (k : ℕ) (node : RawNode) → slice_get term k ≡ Some node → IsBehindOperands k node

-- a node of a constant term is no register and no choice
abbrev pub MayStandInTerm : RawNode → Type 0
MayStandInTerm (raw_nodes.Register name) = ⊥
MayStandInTerm (raw_nodes.Choice k) = ⊥
MayStandInTerm node = Unit {0}

-- the operands of node k of `Pre:` that are nodes of it are earlier ones
abbrev pub IsBehindFormulas : ℕ → RawFormula → Type 0
IsBehindFormulas k (raw_formulas.Not a) = a < k
IsBehindFormulas k (raw_formulas.And a b) = (a < k) × (b < k)
IsBehindFormulas k (raw_formulas.Or a b) = (a < k) × (b < k)
IsBehindFormulas k formula = Unit {0}

-- a node of `Pre:`, as far as it matters to where `hasOneUse` may stand
abbrev pub raw_joint : RawFormula → Joint
raw_joint (raw_formulas.HasOneUse name) = Outer
raw_joint (raw_formulas.MaskedValueIsZero name a) = Outer
raw_joint (raw_formulas.IsKnownNonZero name) = Outer
raw_joint (raw_formulas.Not a) = Turns a
raw_joint (raw_formulas.And a b) = Both a b
raw_joint (raw_formulas.Or a b) = Either a b
raw_joint formula = Single

pub record IsWellFormed (raw : RawRule) : Type 0 where
  pub short_name : length raw.name ≤ 200
  pub source : IsHalf raw.source
  pub target : IsHalf raw.target
  -- the parts stand in the order of their lines: `Name:`, `Pre:`, `Wit:`, the source, the target
  pub name_first : (k : ℕ) (s : RawStatement) → slice_get raw.source k ≡ Some s → raw.line ≤ s.line
  pub precondition_first : (p : RawPrecondition) (k : ℕ) (s : RawStatement) → raw.precondition ≡ Some p → slice_get raw.source k ≡ Some s → p.line ≤ s.line
  pub precondition_before : (p : RawPrecondition) (w : RawWitness) → raw.precondition ≡ Some p → raw.witness ≡ Some w → p.line ≤ w.line
  pub witness_first : (w : RawWitness) (k : ℕ) (s : RawStatement) → raw.witness ≡ Some w → slice_get raw.source k ≡ Some s → w.line ≤ s.line
  pub source_first : (j k : ℕ) (s t : RawStatement) → slice_get raw.source j ≡ Some s → slice_get raw.target k ≡ Some t → s.line ≤ t.line
  -- no copies and no terms stand in the source
  pub source_ops : (k : ℕ) (s : RawStatement) → slice_get raw.source k ≡ Some s → MayStandInSource s.op
  pub source_arguments : (k : ℕ) (s : RawStatement) (t : List RawNode) → slice_get raw.source k ≡ Some s → ¬ Contains (arguments_of s.op) (raw_arguments.Term t)
  -- the nodes of all terms, of `Pre:` and of `Wit:` stand behind their operands
  pub terms : (t : List RawNode) → Contains (terms_of raw) t → IsTerm t
  pub constant_terms : (t : List RawNode) (node : RawNode) → Contains (terms_of raw) t → Contains t node → MayStandInTerm node
  pub expressions : (t : List RawNode) → Contains (expressions_of raw) t → IsTerm t
  pub formula : (k : ℕ) (f : RawFormula) → slice_get (formula_of raw) k ≡ Some f → IsBehindFormulas k f
  -- `hasOneUse`, and what is said of bits, stand as members of the outermost `&&` alone
  pub outer : OuterIsOutermost (map raw_joint (formula_of raw))
  -- and there are not more than 256 operands, nodes and names
  pub weight : raw_weight raw ≤ 256
