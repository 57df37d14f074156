-- The kinds of faults of a rule: for each kind, the lines at which a rule as written has a fault of it.
use Rattle.std.specs.Prelude.{◌≡◌, ◌≢◌, ◌⊎◌, ℕ, suc, ◌<◌, ◌≤◌, List, [], ◌∷◌, length, Some, Contains, slice_get}
use Rattle.std.specs.Option.{option_map_or}
use Rattle.rule_parse.specs.declared.raw.RawRule.{RawRule}
use Rattle.rule_parse.specs.declared.raw.RawPrecondition.{RawPrecondition}
use Rattle.rule_parse.specs.declared.raw.RawWitness.{RawWitness}
use Rattle.rule_parse.specs.declared.raw.RawStatement.{RawStatement}
use Rattle.rule_parse.specs.declared.raw.RawOp.{RawOp}
use Rattle.rule_parse.specs.declared.raw.RawOp.TheVariants as raw_ops
use Rattle.rule_parse.specs.declared.raw.RawArgument.{RawArgument}
use Rattle.rule_parse.specs.declared.raw.RawArgument.TheVariants as raw_arguments
use Rattle.rule_terms.specs.declared.raw.RawNode.{RawNode}
use Rattle.rule_terms.specs.declared.raw.RawNode.TheVariants as raw_nodes
use Rattle.rule_terms.specs.declared.raw.RawFormula.{RawFormula}
use Rattle.rule_terms.specs.declared.raw.RawFormula.TheVariants as raw_formulas
use Rattle.rule_core.specs.declared.rule.Rule.{Rule}
use Rattle.rule_typing.specs.Classes.{IsClassified}
use Rattle.rule_reader.specs.declared.place.UseSite.{UseSite}
use Rattle.rule_reader.specs.declared.place.UseSite.TheVariants as places
use Rattle.rule_parse.specs.Contents.{arguments_of, expressions_of}
use Rattle.rule_reader.specs.Meaning.{in_half, Uses, AssignsAt, IsInput, IsTemporary, IsRoot, IsConstant, Means}

-- P holds of each element
abbrev pub Each : {X : Type 0} → (X → Type 0) → List X → Type 0
Each P [] = Unit {0}
Each P (x ∷ xs) = P x × Each P xs

-- a statement that Q holds of, as the one at its place, stands on the line
abbrev pub StandsAt : List RawStatement → (ℕ → RawStatement → Type 0) → ℕ → Type 0
StandsAt statements Q line = (k : ℕ) × (s : RawStatement) × (slice_get statements k ≡ Some s) × Q k s × (s.line ≡ line)

-- one of the rules has the name
abbrev pub HasNameOf : List RawRule → List ℕ → Type 0
HasNameOf rules name = (k : ℕ) × (other : RawRule) × (slice_get rules k ≡ Some other) × (other.name ≡ name)

-- the statement assigns what an earlier one does
abbrev pub AssignsAgain : List RawStatement → ℕ → RawStatement → Type 0
AssignsAgain statements k s = (j : ℕ) × (j < k) × AssignsAt statements j s.name

-- Duplicate: an earlier rule has the rule's name, or a half assigns a register again
abbrev pub DuplicateAt : List RawRule → RawRule → ℕ → Type 0
DuplicateAt earlier raw line =
    (HasNameOf earlier raw.name × (raw.line ≡ line))
    ⊎ (StandsAt raw.source (AssignsAgain raw.source) line ⊎ StandsAt raw.target (AssignsAgain raw.target) line)

-- The register may be used at a place. In a source statement it is an input, or an earlier statement assigns it. In a
-- target statement it is not the root, and it is an input, a temporary of the source, or what an earlier target
-- statement assigns. In `Pre:` and `Wit:` it is an input or a temporary of the source.
abbrev pub MayUse : RawRule → UseSite → List ℕ → Type 0
MayUse raw (places.Source k) name = IsInput raw.source name ⊎ ((j : ℕ) × (j < k) × AssignsAt raw.source j name)
MayUse raw (places.Target k) name =
    ¬ IsRoot raw.source name
    × (IsInput raw.source name ⊎ (IsTemporary raw.source name ⊎ ((j : ℕ) × (j < k) × AssignsAt raw.target j name)))
MayUse raw places.Heading name = IsInput raw.source name ⊎ IsTemporary raw.source name

-- What a node of a term names may be used at the place: a register, also one whose width is asked for, a constant, or a
-- choice of the target.
abbrev pub NodeIsBound : RawRule → UseSite → RawNode → Type 0
NodeIsBound raw place (raw_nodes.Constant name) = IsConstant raw.source name
NodeIsBound raw place (raw_nodes.Register name) = MayUse raw place name
NodeIsBound raw place (raw_nodes.Choice k) = k < (in_half raw.target).choices
NodeIsBound raw place (raw_nodes.Width name) = MayUse raw place name
NodeIsBound raw place node = Unit {0}

abbrev pub TermIsBound : RawRule → UseSite → List RawNode → Type 0
TermIsBound raw place term = Each (NodeIsBound raw place) term

-- what an operand names may be used at the place
abbrev pub ArgumentIsBound : RawRule → UseSite → RawArgument → Type 0
ArgumentIsBound raw place (raw_arguments.Register name) = MayUse raw place name
ArgumentIsBound raw place (raw_arguments.Constant name) = IsConstant raw.source name
ArgumentIsBound raw place (raw_arguments.Term t) = TermIsBound raw place t
ArgumentIsBound raw place argument = Unit {0}

-- and what a node of a formula names; one use is asked of a temporary of the source, and bits are known of an input or
-- a temporary
abbrev pub FormulaIsBound : RawRule → RawFormula → Type 0
FormulaIsBound raw (raw_formulas.Compare pred a b) = TermIsBound raw places.Heading a × TermIsBound raw places.Heading b
FormulaIsBound raw (raw_formulas.IsPowerOfTwo a) = TermIsBound raw places.Heading a
FormulaIsBound raw (raw_formulas.IsSignBit a) = TermIsBound raw places.Heading a
FormulaIsBound raw (raw_formulas.HasOneUse name) = IsTemporary raw.source name
FormulaIsBound raw (raw_formulas.MaskedValueIsZero name a) = MayUse raw places.Heading name × TermIsBound raw places.Heading a
FormulaIsBound raw (raw_formulas.IsKnownNonZero name) = MayUse raw places.Heading name
FormulaIsBound raw formula = Unit {0}

-- all that a statement names may be used at its place
abbrev pub OpIsBound : RawRule → UseSite → RawOp → Type 0
OpIsBound raw place op = Each (ArgumentIsBound raw place) (arguments_of op)

-- `Pre:`, on this line, names what may not be used there
abbrev pub PreconditionUnbound : RawRule → ℕ → Type 0
PreconditionUnbound raw line = (p : RawPrecondition) × (raw.precondition ≡ Some p) × ¬ Each (FormulaIsBound raw) p.formula × (p.line ≡ line)

-- `Wit:`, on this line, names what may not be used there
abbrev pub WitnessUnbound : RawRule → ℕ → Type 0
WitnessUnbound raw line = (w : RawWitness) × (raw.witness ≡ Some w) × ¬ Each (TermIsBound raw places.Heading) w.expressions × (w.line ≡ line)

-- statement k names what may not be used at its place, which is `At k`
abbrev pub StatementUnbound : RawRule → (ℕ → UseSite) → ℕ → RawStatement → Type 0
StatementUnbound raw At k s = ¬ OpIsBound raw (At k) s.op

-- Unbound: `Pre:`, `Wit:` or a statement on this line names what may not be used there
abbrev pub UnboundAt : RawRule → ℕ → Type 0
UnboundAt raw line =
    PreconditionUnbound raw line
    ⊎ (WitnessUnbound raw line
    ⊎ (StandsAt raw.source (StatementUnbound raw (λ k. places.Source k)) line ⊎ StandsAt raw.target (StatementUnbound raw (λ k. places.Target k)) line))

-- the statement is the last one of the target, and does not assign the root
abbrev pub MissesRoot : RawRule → ℕ → RawStatement → Type 0
MissesRoot raw k s = (suc k ≡ length raw.target) × ¬ IsRoot raw.source s.name

-- RootMissing: the target's last statement, on this line, does not assign the root
abbrev pub RootMissingAt : RawRule → ℕ → Type 0
RootMissingAt raw line = StandsAt raw.target (MissesRoot raw) line

-- the statement assigns an input or a temporary of the source
abbrev pub Redefines : List RawStatement → ℕ → RawStatement → Type 0
Redefines source k s = IsInput source s.name ⊎ IsTemporary source s.name

-- Redefines: a target statement on this line assigns an input or a temporary of the source
abbrev pub RedefinesAt : RawRule → ℕ → Type 0
RedefinesAt raw line = StandsAt raw.target (Redefines raw.source) line

-- a statement from the place on uses the register
abbrev pub UsesFrom : List RawStatement → ℕ → List ℕ → Type 0
UsesFrom statements place name = (k : ℕ) × (s : RawStatement) × (place ≤ k) × (slice_get statements k ≡ Some s) × Uses s.op name

-- the statement is not the last one of the source, and no later one uses what it assigns
abbrev pub IsUnused : List RawStatement → ℕ → RawStatement → Type 0
IsUnused source k s = (suc k < length source) × ¬ UsesFrom source (suc k) s.name

-- UnusedTemp: a source statement on this line assigns a temporary that no later one uses
abbrev pub UnusedTempAt : List RawStatement → ℕ → Type 0
UnusedTempAt source line = StandsAt source (IsUnused source) line

-- the operation is a freeze
abbrev pub IsFreeze : RawOp → Type 0
IsFreeze (raw_ops.Freeze a) = Unit {0}
IsFreeze op = ⊥

-- the operation makes a choice: it reads an `undef`, or is a freeze
abbrev pub LeavesOpen : RawOp → Type 0
LeavesOpen op = Contains (arguments_of op) raw_arguments.Undef ⊎ IsFreeze op

-- the operation is a copy or a freeze of `undef`
abbrev pub ReadsUndefAlone : RawOp → Type 0
ReadsUndefAlone (raw_ops.Freeze a) = a.value ≡ raw_arguments.Undef
ReadsUndefAlone (raw_ops.Copy a) = a.value ≡ raw_arguments.Undef
ReadsUndefAlone op = ⊥

-- a source statement makes a choice and is not the last one, or freezes an `undef`
abbrev pub HasUndefInside : List RawStatement → ℕ → RawStatement → Type 0
HasUndefInside source k s = ((suc k < length source) × LeavesOpen s.op) ⊎ ReadsUndefAlone s.op

-- UndefInside: such a source statement on this line, or a target statement that copies or freezes `undef`
abbrev pub UndefInsideAt : RawRule → ℕ → Type 0
UndefInsideAt raw line = StandsAt raw.source (HasUndefInside raw.source) line ⊎ StandsAt raw.target (λ k s. ReadsUndefAlone s.op) line

-- the line of `Wit:`, or, where there is none, of the rule's name
abbrev pub witness_line : RawRule → ℕ
witness_line raw = option_map_or (λ w. w.line) raw.witness raw.line

-- WitnessCount: `Wit:` does not have as many expressions as the source has choices
abbrev pub WitnessCountAt : RawRule → ℕ → Type 0
WitnessCountAt raw line = (length (expressions_of raw) ≢ (in_half raw.source).choices) × (witness_line raw ≡ line)

-- the faults of classes, which the rule that is meant has, at the line of its name
abbrev pub ClassesAt : RawRule → (Rule → Type 0) → ℕ → Type 0
ClassesAt raw HasFault line = ((rule : Rule) × Means raw rule × IsClassified rule × HasFault rule) × (raw.line ≡ line)
