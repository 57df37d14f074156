-- What the grammar ensures of operations: names are short, flags fit, a source has no copies and no terms, and a target
-- only constant terms. A half comes in by what it allows as a copy.
use Rattle.rule_reader.proofs.Common.{◌≡◌, ℕ, ◌≤◌, Bool, true, false, refl, List, [], ◌∷◌, length, subst, Contains, flat_map, flags_of, flags_of_cast, TruthFits, taken_flags, Part, Token, RawNode, RawStatement, RawOp, Binary, Compare, Unary, Select, Convert, Freeze, Copy, RawOperand, RawArgument, Literal, Constant, SpellsArgument, SpellsOperand, SpellsUntyped, SpellsPair, SpellsTruth, SpellsOp, SpellsStatements, SpellsHalf, SpellsTermOperand, argument_of, Each, arguments_of, arguments_among, terms_of_argument, MayStandInSource, Version, rule_limits}
use Rattle.ops.specs.declared.opcode.Unary.{Unary as Intrinsic}
use Rattle.ops.specs.declared.opcode.Unary.TheVariants as intrinsics
use Rattle.rule_terms.specs.declared.raw.RawNode.TheVariants as raw_nodes
use Rattle.rule_parse.specs.declared.raw.RawArgument.TheVariants.{Term}
use Rattle.rule_reader.specs.WellFormed.{FlagsFitOp}
use Rattle.rule_reader.proofs.Members.{each_in, each_append}
use Rattle.rule_reader.proofs.SpelledTerms.{IsConstantNode, IsConstantTerm, constant_term}

-- some tokens spell it
abbrev pub IsSpelled : {A : Type 0} → (A → Part) → A → Type 0
IsSpelled Spells x = (own : List Token) × Spells x own

-- ---- what statements read

operand : (half : _) (a : RawOperand) (tokens : List Token) → SpellsOperand rule_limits half a tokens → IsSpelled (SpellsArgument rule_limits half) a.value
operand half a tokens spelled = (spelled.1, spelled.3)

untyped : (half : _) (a : RawOperand) (tokens : List Token) → SpellsUntyped rule_limits half a tokens → IsSpelled (SpellsArgument rule_limits half) a.value
untyped half a tokens spelled = (tokens, spelled.1)

pair : (half : _) (a b : RawOperand) (tokens : List Token) → SpellsPair rule_limits half a b tokens → Each (IsSpelled (SpellsArgument rule_limits half)) (a.value ∷ b.value ∷ [])
pair half a b tokens spelled = (operand half a spelled.0 spelled.2, (untyped half b spelled.3.1 spelled.3.3, tt))

-- the grammar spells each operand of an operation; of a copy, where the half has one, that is assumed
arguments_spelled : (version : Version) (half : _) → ((a : RawOperand) (tokens : List Token) → SpellsOp rule_limits version half (Copy a) tokens → SpellsOperand rule_limits half a tokens) → (op : RawOp) (tokens : List Token) → SpellsOp rule_limits version half op tokens → Each (IsSpelled (SpellsArgument rule_limits half)) (arguments_of op)
arguments_spelled version half copies (Binary op flags a b) tokens spelled = pair half a b spelled.3.1 spelled.3.3
arguments_spelled version half copies (Compare pred samesign a b) tokens spelled = pair half a b spelled.3.3.1 spelled.3.3.3
arguments_spelled version half copies (Unary op truth a) tokens spelled = (operand half a spelled.3.1 spelled.3.3, tt)
arguments_spelled version half copies (Select c a b) tokens spelled =
    (operand half c spelled.3.0 spelled.3.2, (operand half a spelled.3.3.3.0 spelled.3.3.3.2, (operand half b spelled.3.3.3.3.1 spelled.3.3.3.3.3, tt)))
arguments_spelled version half copies (Convert cast flags a to) tokens spelled = (operand half a spelled.3.3.0 spelled.3.3.2, tt)
arguments_spelled version half copies (Freeze a) tokens spelled = (operand half a spelled.1 spelled.3, tt)
arguments_spelled version half copies (Copy a) tokens spelled = (operand half a tokens (copies a tokens spelled), tt)

pub argument_spelled : (version : Version) (half : _) → ((a : RawOperand) (tokens : List Token) → SpellsOp rule_limits version half (Copy a) tokens → SpellsOperand rule_limits half a tokens) → (op : RawOp) (tokens : List Token) (a : RawArgument) → SpellsOp rule_limits version half op tokens → Contains (arguments_of op) a → IsSpelled (SpellsArgument rule_limits half) a
argument_spelled version half copies op tokens a spelled among = each_in (IsSpelled (SpellsArgument rule_limits half)) (arguments_of op) a (arguments_spelled version half copies op tokens spelled) among

-- likewise each operand of statements
among_spelled : (version : Version) (half : _) → ((a : RawOperand) (tokens : List Token) → SpellsOp rule_limits version half (Copy a) tokens → SpellsOperand rule_limits half a tokens) → (ss : List RawStatement) (tokens : List Token) → SpellsStatements rule_limits version half ss tokens → Each (IsSpelled (SpellsArgument rule_limits half)) (arguments_among ss)
among_spelled version half copies [] tokens spelled = tt
among_spelled version half copies (s ∷ ss) tokens (own, rest, spelled, others, is) =
    each_append (IsSpelled (SpellsArgument rule_limits half)) (arguments_of s.op) (arguments_among ss) (arguments_spelled version half copies s.op spelled.op spelled.is_op) (among_spelled version half copies ss rest others)

-- ---- the terms of a target

-- a constant that is a term's operand is its only node
constant_alone : (name : List ℕ) (nodes : List RawNode) → Constant name ≡ argument_of nodes → Each IsConstantNode nodes → length name ≤ 200
unfolding argument_of
constant_alone name (raw_nodes.Constant other ∷ []) e each = let same : other ≡ name = cc in subst (λ n. length n ≤ 200) same each.0
constant_alone name (raw_nodes.Literal z ∷ []) e each = absurd (cc)
constant_alone name nodes e each = absurd (cc)

pub short_alone : (name : List ℕ) (tokens : List Token) → SpellsTermOperand rule_limits (Constant name) tokens → length name ≤ 200
short_alone name tokens spelled = constant_alone name spelled.0 spelled.2 (constant_term rule_limits.nested spelled.0 tokens spelled.1).1

same_term : (t nodes : List RawNode) → Term t ≡ argument_of nodes → nodes ≡ t
unfolding argument_of
same_term t (raw_nodes.Literal z ∷ []) e = absurd (cc)
same_term t (raw_nodes.Constant name ∷ []) e = absurd (cc)
same_term t nodes e = cc

pub term_operand : (t : List RawNode) (tokens : List Token) → SpellsTermOperand rule_limits (Term t) tokens → IsConstantTerm t
term_operand t tokens spelled = subst IsConstantTerm (same_term t spelled.0 spelled.2) (constant_term rule_limits.nested spelled.0 tokens spelled.1)

-- the terms of operands are constant terms
terms_among : (half : _) → ((t : List RawNode) (tokens : List Token) → SpellsArgument rule_limits half (Term t) tokens → IsConstantTerm t) → (arguments : List RawArgument) → Each (IsSpelled (SpellsArgument rule_limits half)) arguments → Each IsConstantTerm (flat_map terms_of_argument arguments)
terms_among half constant [] spelled = tt
terms_among half constant (Term t ∷ arguments) spelled = (constant t spelled.0.0 spelled.0.1, terms_among half constant arguments spelled.1)
terms_among half constant (a ∷ arguments) spelled = terms_among half constant arguments spelled.1

pub spelled_terms : (version : Version) (half : _) → ((a : RawOperand) (tokens : List Token) → SpellsOp rule_limits version half (Copy a) tokens → SpellsOperand rule_limits half a tokens) → ((t : List RawNode) (tokens : List Token) → SpellsArgument rule_limits half (Term t) tokens → IsConstantTerm t) → (ss : List RawStatement) (tokens : List Token) → SpellsHalf rule_limits version half ss tokens → Each IsConstantTerm (flat_map terms_of_argument (arguments_among ss))
spelled_terms version half copies constant ss tokens spelled = terms_among half constant (arguments_among ss) (among_spelled version half copies ss tokens spelled.spelled)

-- ---- flags and copies

-- the truth value that is spelled is one that the intrinsic takes
written_truth : (op : Intrinsic) (truth : Bool) (tokens : List Token) → SpellsTruth op truth tokens → TruthFits op truth
written_truth op false tokens spelled = refl
written_truth intrinsics.Abs true tokens spelled = refl
written_truth intrinsics.CtPop true tokens (word, flag, is) = absurd cc
written_truth intrinsics.CtLz true tokens spelled = refl
written_truth intrinsics.CtTz true tokens spelled = refl

-- the flags that are spelled are ones that the instruction takes
pub written_flags : (version : Version) (half : _) (op : RawOp) (tokens : List Token) → SpellsOp rule_limits version half op tokens → FlagsFitOp op
written_flags version half (Binary op flags a b) tokens spelled = let written = spelled.3.2 in taken_flags (flags_of op) written.0 flags written.1
written_flags version half (Unary op truth a) tokens spelled = written_truth op truth spelled.3.0 spelled.3.2
written_flags version half (Convert cast flags a to) tokens spelled = let written = spelled.3.2 in taken_flags (flags_of_cast cast) written.0 flags written.1
written_flags version half op tokens spelled = tt

-- a half that spells no copies has none
pub no_copies : (version : Version) (half : _) → ((a : RawOperand) (tokens : List Token) → ¬ (SpellsOp rule_limits version) half (Copy a) tokens) → (op : RawOp) (tokens : List Token) → SpellsOp rule_limits version half op tokens → MayStandInSource op
no_copies version half none (Copy a) tokens spelled = absurd (none a tokens spelled)
no_copies version half none op tokens spelled = tt
