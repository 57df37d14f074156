-- What is looked up for a name, and what is known of a rule whose names may all be used where they are.
use Rattle.std.specs.Prelude.{◌≡◌, ◌+◌, ◌≤◌, ℕ, List, [], ◌∷◌, ◌++◌, length, Option, None, Some, slice_get}
use Rattle.rule_parse.specs.declared.raw.RawRule.{RawRule}
use Rattle.rule_parse.specs.declared.raw.RawStatement.{RawStatement}
use Rattle.rule_parse.specs.declared.raw.RawArgument.{RawArgument}
use Rattle.rule_parse.specs.declared.raw.RawArgument.TheVariants as raw_arguments
use Rattle.rule_terms.specs.declared.raw.RawNode.{RawNode}
use Rattle.rule_terms.specs.declared.raw.RawNode.TheVariants as raw_nodes
use Rattle.rule_terms.specs.declared.raw.RawFormula.{RawFormula}
use Rattle.rule_core.specs.declared.rule.Register.{Register}
use Rattle.rule_core.specs.declared.rule.Term.{Term}
use Rattle.rule_reader.specs.declared.names.Names.{Names}
use Rattle.rule_reader.specs.declared.counts.Counts.{Counts}
use Rattle.rule_reader.specs.declared.place.UseSite.{UseSite}
use Rattle.rule_reader.specs.declared.place.UseSite.TheVariants as places
use Rattle.rule_reader.specs.declared.place.Half.{Half}
use Rattle.rule_reader.specs.declared.place.Half.TheVariants as halves
use Rattle.rule_parse.specs.Contents.{formula_of, terms_of_formula, expressions_of}
use Rattle.rule_reader.specs.Meaning.{past, HasName, TermsMean}
use Rattle.rule_reader.specs.WellFormed.{IsTerm}
use Rattle.rule_reader.specs.FaultKinds.{Each, MayUse, ArgumentIsBound, OpIsBound, FormulaIsBound, TermIsBound}

-- the statements of a half
abbrev pub half_of : Half → RawRule → List RawStatement
half_of halves.Source raw = raw.source
half_of halves.Target raw = raw.target

-- statement k of a half, as the place of a use
abbrev pub place_in : Half → ℕ → UseSite
place_in halves.Source k = places.Source k
place_in halves.Target k = places.Target k

-- the register of the name that may be used at the place, or none where none may
abbrev pub Finds : RawRule → Names → UseSite → List ℕ → Option Register → Type 0
Finds raw names place name None = ¬ MayUse raw place name
Finds raw names place name (Some r) = MayUse raw place name × HasName raw names r name

-- all that the statements of a half name may be used there
abbrev pub HalfIsBound : RawRule → Half → Type 0
HalfIsBound raw half = (k : ℕ) (s : RawStatement) → slice_get (half_of half raw) k ≡ Some s → OpIsBound raw (place_in half k) s.op

-- all that the rule names may be used where it is
pub record NamesAreThere (raw : RawRule) : Type 0 where
  pub precondition : Each (FormulaIsBound raw) (formula_of raw)
  pub witness : Each (TermIsBound raw places.Heading) (expressions_of raw)
  pub source : HalfIsBound raw halves.Source
  pub target : HalfIsBound raw halves.Target

-- so few choices and nodes that they can be counted: at most 256 choices are `undef`s, and at most 32 freezes
abbrev pub AreFew : Counts → Type 0
AreFew counts = (counts.choices ≤ 288) × (counts.nodes ≤ 256)

-- a term as an operand has its nodes in order
abbrev pub IsWhole : RawArgument → Type 0
IsWhole (raw_arguments.Term t) = IsTerm t
IsWhole argument = Unit {0}

-- operands at a place can be resolved, with these counts before the first
abbrev pub AreReady : RawRule → UseSite → Counts → List RawArgument → Type 0
AreReady raw place before [] = Unit {0}
AreReady raw place before (a ∷ arguments) = (ArgumentIsBound raw place a × IsWhole a × AreFew (past before a)) × AreReady raw place (past before a) arguments

-- with this many nodes before the term the operands of a node are still small numbers
abbrev pub NodeFits : ℕ → RawNode → Type 0
NodeFits before (raw_nodes.Unary function a) = before + a ≤ 256
NodeFits before (raw_nodes.Binary op a b) = (before + a ≤ 256) × (before + b ≤ 256)
NodeFits before node = Unit {0}

-- with these terms behind the terms that gave the nodes before, they give the nodes after
abbrev pub AddsTerms : RawRule → Names → List Term → List (List RawNode) → List Term → Type 0
AddsTerms raw names before more after = (written : List (List RawNode)) → TermsMean raw names written before → TermsMean raw names (written ++ more) after

-- the place is one of the rule, or the one behind the last statement of a half
abbrev pub IsPlaceOf : RawRule → UseSite → Type 0
IsPlaceOf raw (places.Source k) = k ≤ length raw.source
IsPlaceOf raw (places.Target k) = k ≤ length raw.target
IsPlaceOf raw places.Heading = Unit {0}

-- a term can be resolved at the place: its names may be used there, and its nodes are in order
abbrev pub TermIsReady : RawRule → UseSite → List RawNode → Type 0
TermIsReady raw place t = TermIsBound raw place t × IsTerm t

abbrev pub HasReadyTerm : RawRule → UseSite → RawArgument → Type 0
HasReadyTerm raw place (raw_arguments.Term t) = TermIsReady raw place t
HasReadyTerm raw place argument = Unit {0}

-- the terms of a node of `Pre:` can be resolved
abbrev pub HasReadyTerms : RawRule → RawFormula → Type 0
HasReadyTerms raw f = FormulaIsBound raw f × Each IsTerm (terms_of_formula f)
