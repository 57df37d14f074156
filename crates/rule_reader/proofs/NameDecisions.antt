-- What is decided of names in a rule as written.
use Rattle.rule_reader.proofs.Common.{◌≡◌, inl, inr, ℕ, suc, ◌<◌, ◌≤◌, List, [], ◌∷◌, length, Some, refl, ap, subst, ◌∙◌, slice_get, Contains, map, flat_map, map_dec, dec_le, dec_lt, RawRule, RawStatement, RawOp, RawArgument, Literal, Truth, Constant, Undef, RawNode, RawFormula, dec_both, dec_either, dec_not, dec_number, dec_place, dec_one, UseSite, arguments_of, arguments_among, in_half, Uses, UsesAt, AssignsAt, IsInput, IsTemporary, IsRoot, IsConstant, Each, MayUse, NodeIsBound, TermIsBound, ArgumentIsBound, OpIsBound, FormulaIsBound, IsFreeze, LeavesOpen, ReadsUndefAlone, HasUndefInside, IsUnused}
use Rattle.rule_parse.specs.declared.raw.RawOp.TheVariants as ops
use Rattle.rule_parse.specs.declared.raw.RawArgument.TheVariants.{Register, Term}
use Rattle.rule_terms.specs.declared.raw.RawNode.TheVariants as nodes
use Rattle.rule_terms.specs.declared.raw.RawFormula.TheVariants as formulas
use Rattle.rule_reader.specs.declared.place.UseSite.TheVariants as places
use Rattle.rule_reader.proofs.Stable.{same_name}

pub dec_name : (a b : List ℕ) → Dec (a ≡ b)
dec_name a b = elim (same_name a b) [ inl same ↦ yes same | inr differ ↦ no differ ]

-- whether a name is at a place of which P holds is decided
dec_name_at : (P : ℕ → Type 0) (names : List (List ℕ)) (name : List ℕ) → ((k : ℕ) → Dec (P k)) → Dec ((k : ℕ) × P k × (slice_get names k ≡ Some name))
dec_name_at P names name each =
    map_dec (λ (k, other, at, (p, same)). (k, p, at ∙ ap (λ n. Some n) same)) (λ (k, p, at). (k, name, at, (p, refl))) (dec_place (λ k other. P k × (other ≡ name)) names (λ k other. dec_both (each k) (dec_name other name)))

pub dec_assigned : (statements : List RawStatement) (name : List ℕ) → Dec ((k : ℕ) × AssignsAt statements k name)
dec_assigned statements name = map_dec (λ (k, any, at). (k, at)) (λ (k, at). (k, tt, at)) (dec_name_at (λ k. Unit {0}) (map (λ s. s.name) statements) name (λ k. yes tt))

pub dec_assigned_before : (statements : List RawStatement) (k : ℕ) (name : List ℕ) → Dec ((j : ℕ) × (j < k) × AssignsAt statements j name)
dec_assigned_before statements k name = dec_name_at (λ j. j < k) (map (λ s. s.name) statements) name (λ j. dec_lt j k)

pub dec_temporary : (source : List RawStatement) (name : List ℕ) → Dec (IsTemporary source name)
dec_temporary source name = dec_name_at (λ k. suc k < length source) (map (λ s. s.name) source) name (λ k. dec_lt (suc k) (length source))

pub dec_root : (source : List RawStatement) (name : List ℕ) → Dec (IsRoot source name)
dec_root source name = dec_name_at (λ k. suc k ≡ length source) (map (λ s. s.name) source) name (λ k. dec_number (suc k) (length source))

-- whether an operand is this register, this constant or an `undef` is decided
dec_argument : (o : RawArgument) (name : List ℕ) → Dec (o ≡ Register name)
dec_argument (Register other) name = map_dec (λ same. ap (λ n. Register n) same) (λ e. cc) (dec_name other name)
dec_argument (Literal z) name = no (λ e. cc)
dec_argument (Truth b) name = no (λ e. cc)
dec_argument (Constant other) name = no (λ e. cc)
dec_argument Undef name = no (λ e. cc)
dec_argument (Term t) name = no (λ e. cc)

dec_constant_argument : (o : RawArgument) (name : List ℕ) → Dec (o ≡ Constant name)
dec_constant_argument (Constant other) name = map_dec (λ same. ap (λ n. Constant n) same) (λ e. cc) (dec_name other name)
dec_constant_argument (Literal z) name = no (λ e. cc)
dec_constant_argument (Truth b) name = no (λ e. cc)
dec_constant_argument (Register other) name = no (λ e. cc)
dec_constant_argument Undef name = no (λ e. cc)
dec_constant_argument (Term t) name = no (λ e. cc)

dec_undef_argument : (o : RawArgument) → Dec (o ≡ Undef)
dec_undef_argument Undef = yes refl
dec_undef_argument (Literal z) = no (λ e. cc)
dec_undef_argument (Truth b) = no (λ e. cc)
dec_undef_argument (Register other) = no (λ e. cc)
dec_undef_argument (Constant other) = no (λ e. cc)
dec_undef_argument (Term t) = no (λ e. cc)

dec_uses : (op : RawOp) (name : List ℕ) → Dec (Uses op name)
dec_uses op name =
    map_dec (λ (o, among, is). subst (Contains (arguments_of op)) is among) (λ among. (Register name, among, refl)) (dec_one (λ o. o ≡ Register name) (arguments_of op) (λ o. dec_argument o name))

pub dec_input : (source : List RawStatement) (name : List ℕ) → Dec (IsInput source name)
dec_input source name =
    dec_both
    (map_dec (λ (q, o, at, is). (q, at ∙ ap (λ x. Some x) is)) (λ (q, at). (q, Register name, at, refl)) (dec_place (λ q o. o ≡ Register name) (flat_map (λ s. arguments_of s.op) source) (λ q o. dec_argument o name)))
    (map_dec (λ none k at. none (k, at)) (λ none (k, at). none k at) (dec_not (dec_assigned source name)))

pub dec_constant : (source : List RawStatement) (name : List ℕ) → Dec (IsConstant source name)
dec_constant source name =
    map_dec (λ (q, o, at, is). (q, at ∙ ap (λ x. Some x) is)) (λ (q, at). (q, Constant name, at, refl)) (dec_place (λ q o. o ≡ Constant name) (arguments_among source) (λ q o. dec_constant_argument o name))

pub dec_may_use : (raw : RawRule) (place : UseSite) (name : List ℕ) → Dec (MayUse raw place name)
dec_may_use raw (places.Source k) name = dec_either (dec_input raw.source name) (dec_assigned_before raw.source k name)
dec_may_use raw (places.Target k) name =
    dec_both (dec_not (dec_root raw.source name)) (dec_either (dec_input raw.source name) (dec_either (dec_temporary raw.source name) (dec_assigned_before raw.target k name)))
dec_may_use raw places.Heading name = dec_either (dec_input raw.source name) (dec_temporary raw.source name)

pub dec_each : {X : Type 0} (P : X → Type 0) → ((x : X) → Dec (P x)) → (xs : List X) → Dec (Each P xs)
dec_each P each [] = yes tt
dec_each P each (x ∷ xs) = dec_both (each x) (dec_each P each xs)

dec_node : (raw : RawRule) (place : UseSite) (node : RawNode) → Dec (NodeIsBound raw place node)
dec_node raw place (nodes.Literal z) = yes tt
dec_node raw place (nodes.Constant name) = dec_constant raw.source name
dec_node raw place (nodes.Register name) = dec_may_use raw place name
dec_node raw place (nodes.Choice k) = dec_lt k (in_half raw.target).choices
dec_node raw place (nodes.Width name) = dec_may_use raw place name
dec_node raw place (nodes.Unary f a) = yes tt
dec_node raw place (nodes.Binary op a b) = yes tt

pub dec_term : (raw : RawRule) (place : UseSite) (t : List RawNode) → Dec (TermIsBound raw place t)
dec_term raw place t = dec_each (NodeIsBound raw place) (dec_node raw place) t

dec_read : (raw : RawRule) (place : UseSite) (a : RawArgument) → Dec (ArgumentIsBound raw place a)
dec_read raw place (Register name) = dec_may_use raw place name
dec_read raw place (Literal z) = yes tt
dec_read raw place (Truth b) = yes tt
dec_read raw place (Constant name) = dec_constant raw.source name
dec_read raw place Undef = yes tt
dec_read raw place (Term t) = dec_term raw place t

pub dec_op : (raw : RawRule) (place : UseSite) (op : RawOp) → Dec (OpIsBound raw place op)
dec_op raw place op = dec_each (ArgumentIsBound raw place) (dec_read raw place) (arguments_of op)

pub dec_formula : (raw : RawRule) (f : RawFormula) → Dec (FormulaIsBound raw f)
dec_formula raw (formulas.Compare pred a b) = dec_both (dec_term raw places.Heading a) (dec_term raw places.Heading b)
dec_formula raw (formulas.IsPowerOfTwo a) = dec_term raw places.Heading a
dec_formula raw (formulas.IsSignBit a) = dec_term raw places.Heading a
dec_formula raw (formulas.HasOneUse name) = dec_temporary raw.source name
dec_formula raw (formulas.MaskedValueIsZero name a) = dec_both (dec_may_use raw places.Heading name) (dec_term raw places.Heading a)
dec_formula raw (formulas.IsKnownNonZero name) = dec_may_use raw places.Heading name
dec_formula raw (formulas.Not a) = yes tt
dec_formula raw (formulas.And a b) = yes tt
dec_formula raw (formulas.Or a b) = yes tt

dec_freeze : (op : RawOp) → Dec (IsFreeze op)
dec_freeze (ops.Freeze a) = yes tt
dec_freeze (ops.Copy a) = no (λ e. e)
dec_freeze (ops.Binary op flags a b) = no (λ e. e)
dec_freeze (ops.Compare pred samesign a b) = no (λ e. e)
dec_freeze (ops.Unary op truth a) = no (λ e. e)
dec_freeze (ops.Select c a b) = no (λ e. e)
dec_freeze (ops.Convert cast flags a to) = no (λ e. e)

dec_leaves_open : (op : RawOp) → Dec (LeavesOpen op)
dec_leaves_open op =
    dec_either (map_dec (λ (o, among, is). subst (Contains (arguments_of op)) is among) (λ among. (Undef, among, refl)) (dec_one (λ o. o ≡ Undef) (arguments_of op) dec_undef_argument)) (dec_freeze op)

pub dec_undef_alone : (op : RawOp) → Dec (ReadsUndefAlone op)
dec_undef_alone (ops.Freeze a) = dec_undef_argument a.value
dec_undef_alone (ops.Copy a) = dec_undef_argument a.value
dec_undef_alone (ops.Binary op flags a b) = no (λ e. e)
dec_undef_alone (ops.Compare pred samesign a b) = no (λ e. e)
dec_undef_alone (ops.Unary op truth a) = no (λ e. e)
dec_undef_alone (ops.Select c a b) = no (λ e. e)
dec_undef_alone (ops.Convert cast flags a to) = no (λ e. e)

pub dec_undef_inside : (source : List RawStatement) (k : ℕ) (s : RawStatement) → Dec (HasUndefInside source k s)
dec_undef_inside source k s = dec_either (dec_both (dec_lt (suc k) (length source)) (dec_leaves_open s.op)) (dec_undef_alone s.op)

pub dec_unused : (source : List RawStatement) (k : ℕ) (s : RawStatement) → Dec (IsUnused source k s)
dec_unused source k s =
    dec_both (dec_lt (suc k) (length source)) (dec_not (map_dec (λ (j, t, at, (le, uses)). (j, t, le, at, uses)) (λ (j, t, le, at, uses). (j, t, at, (le, uses)))
    (dec_place (λ j t. (suc k ≤ j) × Uses t.op s.name) source (λ j t. dec_both (dec_le (suc k) j) (dec_uses t.op s.name)))))

-- whether an operand of the source is the register is decided
pub dec_uses_at : (source : List RawStatement) (name : List ℕ) → Dec ((q : ℕ) × UsesAt source q name)
dec_uses_at source name =
    map_dec (λ (q, o, at, is). (q, at ∙ ap (λ x. Some x) is)) (λ (q, at). (q, Register name, at, refl)) (dec_place (λ q o. o ≡ Register name) (arguments_among source) (λ q o. dec_argument o name))
