-- A rule that a rule as written without faults means is an `IsRule`.
use Rattle.rule_reader.proofs.Common.{◌≡◌, inl, inr, ℕ, zero, suc, ◌+◌, ◌-◌, ◌<◌, ◌≤◌, Bool, List, [], ◌∷◌, ◌++◌, append_assoc, length, Some, refl, sym, ap, subst, ◌∙◌, arith, get_or, slice_get, Contains, map, flat_map, range_with_len, length-map, Contains-append_left, slice_get_within, slice_get-get_or, same_Some, length-range_with_len, flat_map-append, Flags, Cast, FlagsFit, CastFlagsFit, TruthFits, RawRule, RawStatement, RawOp, RawArgument, RawNode, RawFormula, Rule, Statement, Op, Operand, Argument, Node, Formula, Turns, Both, Either, joint_of, OuterIsOutermost, AreLastNodes, IsRule, SourceMayRead, TargetMayRead, TargetMayMeasure, MeasuresBeforeRoot, FormulaMayMeasure, HasKnownWidth, IsBeforeRoot, MayBeTerm, MayBeWitness, MayBeFormula, ReadsNoUndefAlone, ChoicesInOrder, names_of, operands_among, choices_among, Contains-from_get, Contains-flat_map, Counts, Names, arguments_of, arguments_among, formula_of, expressions_of, target_terms, terms_of, terms_of_argument, terms_of_formula, nodes_in, past, past_all, counted_of, counted_among, no_counts, in_half, with_counts, with_nodes, with_terms, last_nodes, UsesAt, IsRoot, AssignsAt, IsInput, ArgumentMeans, OpMeans, StatementMeans, NodeMeans, FormulaMeans, HasName, HalfMeans, TermsMean, Means, names_of_rule, IsBehindOperands, IsHalf, IsTerm, IsWellFormed, IsBehindFormulas, MayStandInTerm, MayStandInSource, raw_joint, MayUse, NodeIsBound, TermIsBound, ArgumentIsBound, FormulaIsBound, RootMissingAt, UnusedTempAt, UndefInsideAt, WitnessCountAt, IsFreeze, LeavesOpen, ReadsUndefAlone, NamesAreThere}
use Rattle.ops.specs.declared.opcode.Opcode.{Opcode}
use Rattle.ops.specs.declared.opcode.Unary.{Unary as Intrinsic}
use Rattle.rule_parse.specs.declared.raw.RawOp.TheVariants as raw_ops
use Rattle.rule_parse.specs.declared.raw.RawArgument.TheVariants as raw_arguments
use Rattle.rule_terms.specs.declared.raw.RawNode.TheVariants as raw_nodes
use Rattle.rule_terms.specs.declared.raw.RawFormula.TheVariants as raw_formulas
use Rattle.rule_core.specs.declared.rule.Op.TheVariants as ops
use Rattle.rule_core.specs.declared.rule.Argument.TheVariants as arguments
use Rattle.rule_core.specs.declared.rule.Register.{Register}
use Rattle.rule_core.specs.declared.rule.Register.TheVariants as registers
use Rattle.rule_core.specs.declared.rule.Term.{Term}
use Rattle.rule_core.specs.declared.rule.Node.TheVariants as nodes
use Rattle.rule_core.specs.declared.rule.Formula.TheVariants as formulas
use Rattle.rule_core.specs.Checks.{MayStandInSource as MayBeInSource, FlagsFitOp, StandsAt as StandsInRule}
use Rattle.rule_core.specs.Positions.{operands_of as operands_meant}
use Rattle.rule_reader.specs.declared.place.UseSite.TheVariants as places
use Rattle.rule_reader.specs.WellFormed.{FlagsFitOp as FlagsFitRaw}
use Rattle.rule_reader.proofs.Places.{order, same_at, there, map_at, somewhere, zip_right}
use Rattle.rule_reader.proofs.SameWeight.{same_weight}
use Rattle.rule_reader.proofs.There.{IsThere, term_there}
use Rattle.rule_reader.proofs.Stable.{stable_name, same_number}
use Rattle.rule_reader.proofs.Members.{Contains-behind, each_in, each_at, flat_at, at_flat}
use Rattle.rule_reader.proofs.Counting.{past_append, with_counts_at}
use Rattle.rule_reader.proofs.Nodes.{nodes_append, node_at, terms_length, with_terms_at, FormulasMean, last_nodes_count}
use Rattle.rule_reader.proofs.OwnNodes.{statement_split, argument_split, nodes_past, formula_split, measures, are_last_nodes}
use Rattle.rule_reader.proofs.Weighing.{nodes_weigh, counted_terms}
use Rattle.rule_reader.proofs.Found.{input_of as input_of_names}
use Rattle.rule_reader.proofs.Meaning.{assigning_statement, statement_assigns, names_go, count_go, read_go, operands_go, with_before, with_before_at, Goes, nodes_upto, reads_written, written_reads, frozen_operand, counted_meant, half_choices, all_go}
use Rattle.rule_reader.proofs.OneRegister.{IsPlain, one_place, one_register, not_redefined, input_or_earlier, target_register, before_root_register}
use Rattle.rule_reader.proofs.NameDecisions.{dec_uses_at}

-- no check of registers, constants and choices fails
pub record IsBound (raw : RawRule) : Type 0 where
  pub plain : IsPlain raw
  pub there : NamesAreThere raw
  pub root_there : (line : ℕ) → ¬ RootMissingAt raw line
  pub all_used : (line : ℕ) → ¬ UnusedTempAt raw.source line
  pub undefs_right : (line : ℕ) → ¬ UndefInsideAt raw line
  pub enough : (line : ℕ) → ¬ WitnessCountAt raw line

same_fit : (op op' : Opcode) (flags flags' : Flags) → op' ≡ op → flags' ≡ flags → FlagsFit op flags → FlagsFit op' flags'
same_fit op op' flags flags' same same' fit = subst (λ o. FlagsFit o flags') (sym same) (subst (FlagsFit op) (sym same') fit)

same_cast_fit : (cast cast' : Cast) (flags flags' : Flags) → cast' ≡ cast → flags' ≡ flags → CastFlagsFit cast flags → CastFlagsFit cast' flags'
same_cast_fit cast cast' flags flags' same same' fit = subst (λ c. CastFlagsFit c flags') (sym same) (subst (CastFlagsFit cast) (sym same') fit)

same_truth_fit : (op op' : Intrinsic) (truth truth' : Bool) → op' ≡ op → truth' ≡ truth → TruthFits op truth → TruthFits op' truth'
same_truth_fit op op' truth truth' same same' fit = subst (λ o. TruthFits o truth') (sym same) (subst (TruthFits op) (sym same') fit)

module _ (raw : RawRule) (names : Names) where
  fits : (b : Counts) (w : RawOp) (op : Op) → OpMeans raw names b w op → FlagsFitRaw w → FlagsFitOp op
  fits b (raw_ops.Binary op flags a c) (ops.Binary op' flags' x y) means fit = same_fit op op' flags flags' means.0 means.1 fit
  fits b (raw_ops.Unary op truth a) (ops.Unary op' truth' x) means fit = same_truth_fit op op' truth truth' means.0 means.1 fit
  fits b (raw_ops.Convert cast flags a to) (ops.Convert cast' flags' x to') means fit = same_cast_fit cast cast' flags flags' means.0 means.1 fit
  fits b w (ops.Binary op flags x y) means fit = absurd means
  fits b w (ops.Unary op truth x) means fit = absurd means
  fits b w (ops.Convert cast flags x to) means fit = absurd means
  fits b w op means fit = tt

  in_source : (rule : Rule) (k : ℕ) (b : Counts) (w : RawOp) (op : Op) → OpMeans raw names b w op → MayStandInSource w → (IsFreeze w → suc k ≡ length rule.source) → MayBeInSource rule k op
  in_source rule k b (raw_ops.Copy a) (ops.Copy x) means stands last = absurd stands
  in_source rule k b (raw_ops.Freeze a) (ops.Freeze x j) means stands last = last tt
  in_source rule k b w (ops.Copy x) means stands last = absurd means
  in_source rule k b w (ops.Freeze x j) means stands last = absurd means
  in_source rule k b w op means stands last = tt

  undef_means : (b : Counts) (v : RawArgument) (k : ℕ) → ArgumentMeans raw names b v (arguments.Undef k) → v ≡ raw_arguments.Undef
  undef_means b raw_arguments.Undef k means = refl
  undef_means b v k means = absurd means

  no_undef_alone : (b : Counts) (w : RawOp) (op : Op) → OpMeans raw names b w op → ¬ ReadsUndefAlone w → ReadsNoUndefAlone op
  no_undef_alone b (raw_ops.Freeze a) (ops.Freeze x j) means not = λ k is. not (undef_means b a.value k (subst (ArgumentMeans raw names b a.value) is means.0.1))
  no_undef_alone b (raw_ops.Copy a) (ops.Copy x) means not = λ k is. not (undef_means b a.value k (subst (ArgumentMeans raw names b a.value) is means.1))
  no_undef_alone b w (ops.Freeze x j) means not = absurd means
  no_undef_alone b w (ops.Copy x) means not = absurd means
  no_undef_alone b w op means not = tt

  term_means : (b : Counts) (v : RawArgument) (n : ℕ) → ArgumentMeans raw names b v (arguments.Term n) → (t : List RawNode) × (v ≡ raw_arguments.Term t) × (suc n ≡ b.nodes + length t)
  term_means b (raw_arguments.Term t) n means = (t, refl, means)
  term_means b v n means = absurd means

  register_means : (b : Counts) (v : RawArgument) (r : Register) → ArgumentMeans raw names b v (arguments.Register r) → (name : List ℕ) × (v ≡ raw_arguments.Register name) × HasName raw names r name
  register_means b (raw_arguments.Register name) r means = (name, refl, means)
  register_means b v r means = absurd means

  constant_means : (b : Counts) (v : RawArgument) (k : ℕ) → ArgumentMeans raw names b v (arguments.Constant k) → (name : List ℕ) × (v ≡ raw_arguments.Constant name) × (slice_get names.constants k ≡ Some name)
  constant_means b (raw_arguments.Constant name) k means = (name, refl, means)
  constant_means b v k means = absurd means

  named_register : (b : Counts) (name : List ℕ) (a : Argument) → ArgumentMeans raw names b (raw_arguments.Register name) a → (r : Register) × (a ≡ arguments.Register r) × HasName raw names r name
  named_register b name (arguments.Register r) means = (r, refl, means)
  named_register b name a means = absurd means

  named_constant : (b : Counts) (name : List ℕ) (a : Argument) → ArgumentMeans raw names b (raw_arguments.Constant name) a → (k : ℕ) × (a ≡ arguments.Constant k) × (slice_get names.constants k ≡ Some name)
  named_constant b name (arguments.Constant k) means = (k, refl, means)
  named_constant b name a means = absurd means

-- the counted operands of a statement are its operands, and maybe one for a freeze
counted_behind : (op : RawOp) → (frozen : List RawArgument) × (counted_of op ≡ arguments_of op ++ frozen)
counted_behind (raw_ops.Binary op flags a b) = ([], refl)
counted_behind (raw_ops.Compare pred samesign a b) = ([], refl)
counted_behind (raw_ops.Unary op truth a) = ([], refl)
counted_behind (raw_ops.Select c a b) = ([], refl)
counted_behind (raw_ops.Convert cast flags a to) = ([], refl)
counted_behind (raw_ops.Freeze a) = (raw_arguments.Undef ∷ [], refl)
counted_behind (raw_ops.Copy a) = ([], refl)

-- what stands between others is among them
Contains-amid : {X : Type 0} (front : List X) (x : X) (back : List X) → Contains (front ++ x ∷ back) x
Contains-amid [] x back = Contains-from_get (x ∷ back) 0 x refl
Contains-amid (y ∷ front) x back = Contains-behind y (front ++ x ∷ back) x (Contains-amid front x back)

-- the last node of a term is one of all nodes
last_within : (n : ℕ) (ts : List (List RawNode)) (k m : ℕ) → ((t : List RawNode) → Contains ts t → 0 < length t) → slice_get (last_nodes n ts) k ≡ Some m → m < n + nodes_in ts
last_within n [] k m some at = elim k as (λ j. slice_get [] j ≡ Some m → m < n + nodes_in []) [ zero ↦ λ h. absurd (cc) | suc j ↦ λ h. absurd (cc) ] at
last_within n (t ∷ ts) zero m some at =
    let first : n + length t - 1 ≡ m = same_Some (n + length t - 1) m at in
    let long : 0 < length t = some t (Contains-from_get (t ∷ ts) 0 t refl) in
    omega (arith, nodes_append (t ∷ []) ts, first, long)
last_within n (t ∷ ts) (suc k) m some at =
    let rest : m < n + length t + nodes_in ts = last_within (n + length t) ts k m (λ u among. let (j, there') = somewhere ts u among in some u (Contains-from_get (t ∷ ts) (suc j) u there')) at in
    omega (arith, nodes_append (t ∷ []) ts, rest)

-- so is each node of the terms of a node of `Pre:`
formula_within : (n : ℕ) (fs : List RawFormula) (k : ℕ) (x : ℕ × RawFormula) → slice_get (with_terms n fs) k ≡ Some x → x.0 + nodes_in (terms_of_formula x.1) ≤ n + nodes_in (flat_map terms_of_formula fs)
formula_within n [] k x at = elim k as (λ j. slice_get [] j ≡ Some x → x.0 + nodes_in (terms_of_formula x.1) ≤ n + 0) [ zero ↦ λ h. absurd (cc) | suc j ↦ λ h. absurd (cc) ] at
formula_within n (f ∷ fs) zero x at =
    subst (λ (y : ℕ × RawFormula). y.0 + nodes_in (terms_of_formula y.1) ≤ n + nodes_in (flat_map terms_of_formula (f ∷ fs))) (same_Some (n, f) x at) (omega (arith, nodes_append (terms_of_formula f) (flat_map terms_of_formula fs)))
formula_within n (f ∷ fs) (suc k) x at =
    let rest : x.0 + nodes_in (terms_of_formula x.1) ≤ n + nodes_in (terms_of_formula f) + nodes_in (flat_map terms_of_formula fs) = formula_within (n + nodes_in (terms_of_formula f)) fs k x at in
    omega (arith, nodes_append (terms_of_formula f) (flat_map terms_of_formula fs), rest)

module _ (raw : RawRule) (rule : Rule) (well : IsWellFormed raw) (bound : IsBound raw) (means : Means raw rule) where
  abbrev own : Names
  own = names_of_rule rule

  source_names : names_of rule.source ≡ map (λ s. s.name) raw.source
  source_names = names_go raw own no_counts raw.source rule.source means.source

  target_names : names_of rule.target ≡ map (λ s. s.name) raw.target
  target_names = names_go raw own no_counts raw.target rule.target means.target

  source_length : length rule.source ≡ length raw.source
  source_length = count_go raw own no_counts raw.source rule.source means.source

  target_length : length rule.target ≡ length raw.target
  target_length = count_go raw own no_counts raw.target rule.target means.target

  source_at : (k : ℕ) (name : List ℕ) → slice_get (names_of rule.source) k ≡ Some name → AssignsAt raw.source k name
  source_at k name at = subst (λ ns. slice_get ns k ≡ Some name) source_names at

  target_at : (k : ℕ) (name : List ℕ) → slice_get (names_of rule.target) k ≡ Some name → AssignsAt raw.target k name
  target_at k name at = subst (λ ns. slice_get ns k ≡ Some name) target_names at

  -- the statement as written of a statement
  written : (ws : List RawStatement) (ss : List Statement) (k : ℕ) (s : Statement) → HalfMeans raw own ws ss → slice_get ss k ≡ Some s → (b : Counts) × (w : RawStatement) × (slice_get ws k ≡ Some w) × StatementMeans raw own b w s
  written ws ss k s all at =
      let (x, at', goes) = zip_right (λ (x : Counts × RawStatement) (y : Statement). StatementMeans raw own x.0 x.1 y) (with_counts no_counts ws) ss k s all at in
      (x.0, x.1, with_counts_at no_counts ws k x at', goes)

  -- the operand as written of a statement's operand
  used : (ws : List RawStatement) (ss : List Statement) (k : ℕ) (s : Statement) (o : Operand) → HalfMeans raw own ws ss → slice_get ss k ≡ Some s → Contains (operands_meant s.op) o
      → (w : RawStatement) × (b : Counts) × (v : RawArgument) × (slice_get ws k ≡ Some w) × Contains (arguments_of w.op) v × ArgumentMeans raw own b v o.value
  used ws ss k s o all at among =
      let (c, w, at', goes) = written ws ss k s all at in
      let (q, place) = somewhere (operands_meant s.op) o among in
      let (b, v, spot, goes') = read_go raw own c w.op s.op q o goes.1 place in
      (w, b, v, at', Contains-from_get (arguments_of w.op) q v spot, goes')

  -- a source statement that makes a choice is the root's
  at_root : (k : ℕ) (w : RawStatement) → slice_get raw.source k ≡ Some w → LeavesOpen w.op → suc k ≡ length rule.source
  at_root k w at leaves = elim (order (suc k) (length raw.source)) [
    | inl lt ↦ absurd (bound.undefs_right w.line (inl (k, w, at, inl (lt, leaves), refl)))
    | inr (inl e) ↦ e ∙ sym source_length
    | inr (inr gt) ↦ let inside : k < length raw.source = slice_get_within raw.source k w at in absurd (omega arith)
  ]

  source_may : (k : ℕ) (w : RawStatement) (b : Counts) (v : RawArgument) (a : Argument) → slice_get raw.source k ≡ Some w → Contains (arguments_of w.op) v → ArgumentMeans raw own b v a → SourceMayRead rule k a
  source_may k w b (raw_arguments.Register name) (arguments.Register r) at among has =
      let may : MayUse raw (places.Source k) name = each_in (ArgumentIsBound raw (places.Source k)) (arguments_of w.op) (raw_arguments.Register name) (bound.there.source k w at) among in
      elim (input_or_earlier raw own bound.plain means.names k name r (slice_get_within raw.source k w at) (λ not. not may) has) [
        | inl (i, lt, e) ↦ subst (λ x. SourceMayRead rule k (arguments.Register x)) (sym e) lt
        | inr (j, lt, e) ↦ subst (λ x. SourceMayRead rule k (arguments.Register x)) (sym e) lt
      ]
  source_may k w b (raw_arguments.Literal z) (arguments.Literal y) at among has = tt
  source_may k w b (raw_arguments.Truth t) (arguments.Truth u) at among has = tt
  source_may k w b (raw_arguments.Constant name) (arguments.Constant j) at among has = slice_get_within rule.constants j name has
  source_may k w b raw_arguments.Undef (arguments.Undef j) at among has = at_root k w at (inl among)
  source_may k w b (raw_arguments.Term t) (arguments.Term n) at among has = absurd (well.source_arguments k w t at among)
  source_may k w b v a at among has = absurd has

  terms_long : length rule.terms ≡ nodes_in (terms_of raw)
  terms_long = terms_length raw own (terms_of raw) rule.terms means.terms

  target_nodes : nodes_in (target_terms raw) ≤ length rule.terms
  target_nodes = omega (arith, terms_long, nodes_append (target_terms raw) (flat_map terms_of_formula (formula_of raw)))

  -- the term that a target operand is
  term_within : (q : ℕ) (o : Operand) (n : ℕ) → slice_get (operands_among rule.target) q ≡ Some o → o.value ≡ arguments.Term n → n < length rule.terms
  term_within q o n at is =
      let (k, s, there, among) = flat_at (λ (s : Statement). operands_meant s.op) rule.target q o at in
      let counted : Contains (flat_map counted_meant rule.target) o =
      Contains-flat_map counted_meant rule.target s o (Contains-from_get rule.target k s there) (Contains-append_left (operands_meant s.op) (frozen_operand s.class s.op) o among) in
      let (p, place) = somewhere (flat_map counted_meant rule.target) o counted in
      let ((b, v), spot, goes) = zip_right (Goes raw own) (with_before no_counts (counted_among raw.target)) (flat_map counted_meant rule.target) p o (all_go raw own no_counts raw.target rule.target means.target) place in
      let (t, e, sum) = term_means raw own b v n (subst (ArgumentMeans raw own b v) is goes) in
      let upto : (past b v).nodes ≤ (in_half raw.target).nodes = nodes_upto no_counts (counted_among raw.target) p (b, v) spot in
      let upto' : b.nodes + length t ≤ (in_half raw.target).nodes = subst (λ u. (past b u).nodes ≤ (in_half raw.target).nodes) e upto in
      omega (arith, sum, upto', nodes_weigh no_counts (counted_among raw.target), ap nodes_in (counted_terms raw.target), target_nodes)

  target_may : (k : ℕ) (w : RawStatement) (b : Counts) (v : RawArgument) (a : Argument) → ((n : ℕ) → a ≡ arguments.Term n → n < length rule.terms) → slice_get raw.target k ≡ Some w → Contains (arguments_of w.op) v → ArgumentMeans raw own b v a → TargetMayRead rule k a
  target_may k w b (raw_arguments.Register name) (arguments.Register r) inside at among has =
      let may : MayUse raw (places.Target k) name = each_in (ArgumentIsBound raw (places.Target k)) (arguments_of w.op) (raw_arguments.Register name) (bound.there.target k w at) among in
      elim (target_register raw own bound.plain means.names k name r (λ not. not may) has) [
        | inl (i, lt, e) ↦ subst (λ x. TargetMayRead rule k (arguments.Register x)) (sym e) lt
        | inr (inl (j, lt, e)) ↦ subst (λ x. TargetMayRead rule k (arguments.Register x)) (sym e) (subst (λ n. suc j < n) (sym source_length) lt)
        | inr (inr (j, lt, e)) ↦ subst (λ x. TargetMayRead rule k (arguments.Register x)) (sym e) lt
      ]
  target_may k w b (raw_arguments.Literal z) (arguments.Literal y) inside at among has = tt
  target_may k w b (raw_arguments.Truth t) (arguments.Truth u) inside at among has = tt
  target_may k w b (raw_arguments.Constant name) (arguments.Constant j) inside at among has = slice_get_within rule.constants j name has
  target_may k w b raw_arguments.Undef (arguments.Undef j) inside at among has = tt
  target_may k w b (raw_arguments.Term t) (arguments.Term n) inside at among has = inside n refl
  target_may k w b v a inside at among has = absurd has

  read_in_source : (k : ℕ) (s : Statement) (o : Operand) → slice_get rule.source k ≡ Some s → Contains (operands_meant s.op) o → SourceMayRead rule k o.value
  read_in_source k s o at among = let (w, b, v, at', among', goes) = used raw.source rule.source k s o means.source at among in source_may k w b v o.value at' among' goes

  read_in_target : (k : ℕ) (s : Statement) (o : Operand) → slice_get rule.target k ≡ Some s → Contains (operands_meant s.op) o → TargetMayRead rule k o.value
  read_in_target k s o at among =
      let (w, b, v, at', among', goes) = used raw.target rule.target k s o means.target at among in
      let (q, spot) = at_flat (λ (s : Statement). operands_meant s.op) rule.target k s o at among in
      target_may k w b v o.value (λ n is. term_within q o n spot is) at' among' goes

  -- ---- inputs and constants

  input_name : (name : List ℕ) → Contains rule.inputs name → IsInput raw.source name
  input_name name among = input_of_names raw.source own means.names name among

  input_read : (i q : ℕ) (name : List ℕ) → slice_get rule.inputs i ≡ Some name → UsesAt raw.source q name → StandsInRule rule q (arguments.Register (registers.Input i))
  input_read i q name at uses =
      let (b, o, spot, goes) = written_reads raw own raw.source rule.source q (raw_arguments.Register name) means.source uses in
      let (r, e, has) = named_register raw own b name o.value goes in
      let not_root : ¬ IsRoot raw.source name = λ (j, last, at'). (input_name name (Contains-from_get rule.inputs i name at)).1 j at' in
      (o, spot, e ∙ ap (λ x. arguments.Register x) (one_register raw own bound.plain means.names r (registers.Input i) name not_root has at))

  constant_read : (k q : ℕ) (name : List ℕ) → slice_get rule.constants k ≡ Some name → slice_get (arguments_among raw.source) q ≡ Some (raw_arguments.Constant name) → StandsInRule rule q (arguments.Constant k)
  constant_read k q name at uses =
      let (b, o, spot, goes) = written_reads raw own raw.source rule.source q (raw_arguments.Constant name) means.source uses in
      let (j, e, has) = named_constant raw own b name o.value goes in
      (o, spot, e ∙ ap (λ x. arguments.Constant x) (means.names.constants.once j k name has at))

  read_as : (q : ℕ) (a : Argument) → StandsInRule rule q a → (b : Counts) × (v : RawArgument) × (slice_get (arguments_among raw.source) q ≡ Some v) × ArgumentMeans raw own b v a
  read_as q a (o, at, is) = let (b, v, spot, goes) = reads_written raw own raw.source rule.source q o means.source at in (b, v, spot, subst (ArgumentMeans raw own b v) is goes)

  free_input : (i : ℕ) (name : List ℕ) → slice_get rule.inputs i ≡ Some name → (k : ℕ) → AssignsAt raw.source k name → ⊥
  free_input i name at = (input_name name (Contains-from_get rule.inputs i name at)).1

  all_inputs_read : (i : ℕ) → i < length rule.inputs → (q : ℕ) × StandsInRule rule q (arguments.Register (registers.Input i))
  all_inputs_read i within =
      let name : List ℕ = get_or rule.inputs i [] in
      let at : slice_get rule.inputs i ≡ Some name = slice_get-get_or rule.inputs i [] within in
      let (q, uses) = (input_name name (Contains-from_get rule.inputs i name at)).0 in
      (q, input_read i q name at uses)

  inputs_in_order : (h i q : ℕ) → h < i → StandsInRule rule q (arguments.Register (registers.Input i)) → (p : ℕ) × (p < q) × StandsInRule rule p (arguments.Register (registers.Input h))
  inputs_in_order h i q lt reads =
      let (b, v, spot, goes) = read_as q (arguments.Register (registers.Input i)) reads in
      let (n, e, at) = register_means raw own b v (registers.Input i) goes in
      let within : i < length rule.inputs = slice_get_within rule.inputs i n at in
      let m : List ℕ = get_or rule.inputs h [] in
      let at' : slice_get rule.inputs h ≡ Some m = slice_get-get_or rule.inputs h [] (omega arith) in
      let (p, before, (a, spot', gives)) = means.names.inputs.in_order h i q m n lt at' at (v, spot, (e, free_input i n at)) in
      (p, before, input_read h p m at' (spot' ∙ ap (λ x. Some x) gives.0))

  all_constants_read : (k : ℕ) → k < length rule.constants → (q : ℕ) × StandsInRule rule q (arguments.Constant k)
  all_constants_read k within =
      let name : List ℕ = get_or rule.constants k [] in
      let at : slice_get rule.constants k ≡ Some name = slice_get-get_or rule.constants k [] within in
      let (q, (a, spot, is)) = (means.names.constants.each name).0 (Contains-from_get rule.constants k name at) in
      (q, constant_read k q name at (spot ∙ ap (λ x. Some x) is))

  constants_in_order : (h k q : ℕ) → h < k → StandsInRule rule q (arguments.Constant k) → (p : ℕ) × (p < q) × StandsInRule rule p (arguments.Constant h)
  constants_in_order h k q lt reads =
      let (b, v, spot, goes) = read_as q (arguments.Constant k) reads in
      let (n, e, at) = constant_means raw own b v k goes in
      let within : k < length rule.constants = slice_get_within rule.constants k n at in
      let m : List ℕ = get_or rule.constants h [] in
      let at' : slice_get rule.constants h ≡ Some m = slice_get-get_or rule.constants h [] (omega arith) in
      let (p, before, (a, spot', gives)) = means.names.constants.in_order h k q m n lt at' at (v, spot, e) in
      (p, before, constant_read h p m at' (spot' ∙ ap (λ x. Some x) gives))

  temporaries_read : (j : ℕ) → suc j < length rule.source → (q : ℕ) × StandsInRule rule q (arguments.Register (registers.Source j))
  temporaries_read j before =
      let inside : suc j < length raw.source = subst (λ n. suc j < n) source_length before in
      let (w, at) = there raw.source j (omega arith) in
      let assigns : AssignsAt raw.source j w.name = statement_assigns raw.source j w at in
      let not_root : ¬ IsRoot raw.source w.name = λ (i, last, assigns'). let e : i ≡ j = one_place raw.source bound.plain.source_once i j w.name assigns' assigns in absurd (omega arith) in
      elim (dec_uses_at raw.source w.name) [
        | yes (q, uses) ↦
            let (b, o, spot, goes) = written_reads raw own raw.source rule.source q (raw_arguments.Register w.name) means.source uses in
            let (r, e, has) = named_register raw own b w.name o.value goes in
            (q, (o, spot, e ∙ ap (λ x. arguments.Register x) (one_register raw own bound.plain means.names r (registers.Source j) w.name not_root has assigns)))
        | no none ↦ absurd (bound.all_used w.line (
          j,
          w,
          at,
          (
            inside,
            λ (k, t, le, at', uses).
                let (q, place) = at_flat (λ (s : RawStatement). arguments_of s.op) raw.source k t (raw_arguments.Register w.name) at' uses in
                none (q, place),
          ),
          refl,
        ))
      ]

  -- ---- terms

  before_root : (name : List ℕ) (r : Register) → MayUse raw places.Heading name → HasName raw own r name → IsBeforeRoot rule r
  before_root name r may has = elim (before_root_register raw own bound.plain means.names name r may has) [
    | inl (i, lt, e) ↦ subst (IsBeforeRoot rule) (sym e) lt
    | inr (j, lt, e) ↦ subst (IsBeforeRoot rule) (sym e) (subst (λ n. suc j < n) (sym source_length) lt)
  ]

  has_width : (name : List ℕ) (r : Register) → IsThere raw (raw_nodes.Width name) → HasName raw own r name → HasKnownWidth rule r
  has_width name r (inl (k, inside, may)) has = elim (target_register raw own bound.plain means.names k name r (λ not. not may) has) [
    | inl (i, lt, e) ↦ subst (HasKnownWidth rule) (sym e) lt
    | inr (inl (j, lt, e)) ↦ subst (HasKnownWidth rule) (sym e) (subst (λ n. suc j < n) (sym source_length) lt)
    | inr (inr (j, lt, e)) ↦ subst (HasKnownWidth rule) (sym e) (let within : suc j < length raw.target = omega arith in subst (λ n. suc j < n) (sym target_length) within)
  ]
  has_width name r (inr may) has = elim (before_root_register raw own bound.plain means.names name r may has) [
    | inl (i, lt, e) ↦ subst (HasKnownWidth rule) (sym e) lt
    | inr (j, lt, e) ↦ subst (HasKnownWidth rule) (sym e) (subst (λ n. suc j < n) (sym source_length) lt)
  ]

  may_be_term : (n b k : ℕ) (w : RawNode) (m : Node) → b + k ≡ n → NodeMeans raw own b w m → IsBehindOperands k w → MayStandInTerm w → IsThere raw w → MayBeTerm rule n m
  may_be_term n b k (raw_nodes.Literal z) (nodes.Literal y) sum is behind stands named = tt
  may_be_term n b k (raw_nodes.Constant name) (nodes.Constant j) sum is behind stands named = slice_get_within rule.constants j name is
  may_be_term n b k (raw_nodes.Register name) (nodes.Register r) sum is behind stands named = stands
  may_be_term n b k (raw_nodes.Choice i) (nodes.Choice j) sum is behind stands named = stands
  may_be_term n b k (raw_nodes.Width name) (nodes.Width r c) sum is behind stands named = has_width name r named is
  may_be_term n b k (raw_nodes.Unary f a) (nodes.Unary f' x) sum is behind stands named = omega (arith, is.1)
  may_be_term n b k (raw_nodes.Binary op a c) (nodes.Binary op' x y) sum is behind stands named = (omega (arith, is.1, behind.0), omega (arith, is.2, behind.1))
  may_be_term n b k w m sum is behind stands named = absurd is

  -- a half has as many choices as are counted, numbered in order
  choices_long : (ws : List RawStatement) (ss : List Statement) → HalfMeans raw own ws ss → length (choices_among ss) ≡ (in_half ws).choices
  choices_long ws ss all =
      sym (length-map (choices_among ss) (λ c. c.place)) ∙ ap length (half_choices raw own ws ss all) ∙ length-range_with_len 0 (in_half ws).choices

  choices_in_order : (ws : List RawStatement) (ss : List Statement) → HalfMeans raw own ws ss → ChoicesInOrder ss
  choices_in_order ws ss all = half_choices raw own ws ss all ∙ ap (range_with_len 0) (sym (choices_long ws ss all))

  may_be_witness : (n b k : ℕ) (w : RawNode) (m : Node) → b + k ≡ n → NodeMeans raw own b w m → IsBehindOperands k w → NodeIsBound raw places.Heading w → MayBeWitness rule n m
  may_be_witness n b k (raw_nodes.Literal z) (nodes.Literal y) sum is behind named = tt
  may_be_witness n b k (raw_nodes.Constant name) (nodes.Constant j) sum is behind named = slice_get_within rule.constants j name is
  may_be_witness n b k (raw_nodes.Register name) (nodes.Register r) sum is behind named = before_root name r named is
  may_be_witness n b k (raw_nodes.Choice i) (nodes.Choice j) sum is behind named = omega (arith, is, named, choices_long raw.target rule.target means.target)
  may_be_witness n b k (raw_nodes.Width name) (nodes.Width r c) sum is behind named = before_root name r named is
  may_be_witness n b k (raw_nodes.Unary f a) (nodes.Unary f' x) sum is behind named = omega (arith, is.1)
  may_be_witness n b k (raw_nodes.Binary op a c) (nodes.Binary op' x y) sum is behind named = (omega (arith, is.1, behind.0), omega (arith, is.2, behind.1))
  may_be_witness n b k w m sum is behind named = absurd is

  all_terms : (n : ℕ) (t : Term) → slice_get rule.terms n ≡ Some t → MayBeTerm rule n t.node
  all_terms n t at =
      let (x, at', is) = zip_right (λ (x : ℕ × RawNode) (y : Term). NodeMeans raw own x.0 x.1 y.node) (with_nodes 0 (terms_of raw)) rule.terms n t means.terms at in
      let (u, among, (k, spot, sum)) = node_at 0 (terms_of raw) n x at' in
      let inside = Contains-from_get u k x.1 spot in
      let whole : x.0 + k ≡ 0 + n = sum in
      let place : x.0 + k ≡ n = omega arith in
      may_be_term n x.0 k x.1 t.node place is ((well.terms u among).each k x.1 spot) (well.constant_terms u x.1 among inside) (term_there raw bound.there u x.1 among inside)

  all_witness_terms : (n : ℕ) (t : Term) → slice_get rule.witness_terms n ≡ Some t → MayBeWitness rule n t.node
  all_witness_terms n t at =
      let (x, at', is) = zip_right (λ (x : ℕ × RawNode) (y : Term). NodeMeans raw own x.0 x.1 y.node) (with_nodes 0 (expressions_of raw)) rule.witness_terms n t means.witness_terms at in
      let (u, among, (k, spot, sum)) = node_at 0 (expressions_of raw) n x at' in
      let whole : x.0 + k ≡ 0 + n = sum in
      let place : x.0 + k ≡ n = omega arith in
      may_be_witness n x.0 k x.1 t.node place is ((well.expressions u among).each k x.1 spot)
      (each_in (NodeIsBound raw places.Heading) u x.1 (each_in (TermIsBound raw places.Heading) (expressions_of raw) u bound.there.witness among) (Contains-from_get u k x.1 spot))

  may_be_formula : (n b : ℕ) (w : RawFormula) (f : Formula) → FormulaMeans raw own b w f → IsBehindFormulas n w → FormulaIsBound raw w → b + nodes_in (terms_of_formula w) ≤ length rule.terms → MayBeFormula rule n f
  may_be_formula n b (raw_formulas.Compare pred u v) (formulas.Compare pred' x y) is behind named few = (omega (arith, is.1, nodes_append (u ∷ []) (v ∷ [])), omega (arith, is.2, nodes_append (u ∷ []) (v ∷ [])))
  may_be_formula n b (raw_formulas.IsPowerOfTwo u) (formulas.IsPowerOfTwo x) is behind named few = omega arith
  may_be_formula n b (raw_formulas.IsSignBit u) (formulas.IsSignBit x) is behind named few = omega arith
  may_be_formula n b (raw_formulas.HasOneUse name) (formulas.HasOneUse k) is (behind) named few =
      let e : named.0 ≡ k = one_place raw.source bound.plain.source_once named.0 k name named.2 is in
      let lt : suc named.0 < length raw.source = named.1 in omega (arith, source_length)
  may_be_formula n b (raw_formulas.MaskedValueIsZero name u) (formulas.MaskedValueIsZero r x) is behind named few = (before_root name r named.0 is.0, omega (arith, is.1))
  may_be_formula n b (raw_formulas.IsKnownNonZero name) (formulas.IsKnownNonZero r) is behind named few = before_root name r named is
  may_be_formula n b (raw_formulas.Not a) (formulas.Not x) is behind named few = omega arith
  may_be_formula n b (raw_formulas.And a c) (formulas.And x y) is behind named few = (omega (arith, is.0, behind.0), omega (arith, is.1, behind.1))
  may_be_formula n b (raw_formulas.Or a c) (formulas.Or x y) is behind named few = (omega (arith, is.0, behind.0), omega (arith, is.1, behind.1))
  may_be_formula n b w f is behind named few = absurd is

  all_formulas : (n : ℕ) (f : Formula) → slice_get rule.precondition n ≡ Some f → MayBeFormula rule n f
  all_formulas n f at =
      let start = nodes_in (target_terms raw) in
      let (x, at', is) = zip_right (λ (x : ℕ × RawFormula) (y : Formula). FormulaMeans raw own x.0 x.1 y) (with_terms start (formula_of raw)) rule.precondition n f means.precondition at in
      let spot = with_terms_at raw own start (formula_of raw) n x at' in
      may_be_formula n x.0 x.1 f is (well.formula n x.1 spot) (each_at (FormulaIsBound raw) (formula_of raw) n x.1 bound.there.precondition spot)
      (omega (arith, formula_within start (formula_of raw) n x at', terms_long, nodes_append (target_terms raw) (flat_map terms_of_formula (formula_of raw))))

  -- ---- members of the outermost `&&` alone

  joint_means : (b : ℕ) (w : RawFormula) (f : Formula) → FormulaMeans raw own b w f → joint_of f ≡ raw_joint w
  joint_means b (raw_formulas.Compare pred u v) (formulas.Compare pred' x y) is = refl
  joint_means b (raw_formulas.IsPowerOfTwo u) (formulas.IsPowerOfTwo x) is = refl
  joint_means b (raw_formulas.IsSignBit u) (formulas.IsSignBit x) is = refl
  joint_means b (raw_formulas.HasOneUse name) (formulas.HasOneUse k) is = refl
  joint_means b (raw_formulas.MaskedValueIsZero name u) (formulas.MaskedValueIsZero r x) is = refl
  joint_means b (raw_formulas.IsKnownNonZero name) (formulas.IsKnownNonZero r) is = refl
  joint_means b (raw_formulas.Not a) (formulas.Not x) is = ap (λ n. Turns n) is
  joint_means b (raw_formulas.And a c) (formulas.And x y) is = ap (λ n. Both n y) is.0 ∙ ap (λ n. Both a n) is.1
  joint_means b (raw_formulas.Or a c) (formulas.Or x y) is = ap (λ n. Either n y) is.0 ∙ ap (λ n. Either a n) is.1
  joint_means b w f is = absurd is

  joints_mean : (n : ℕ) (fs : List RawFormula) (gs : List Formula) → FormulasMean raw own n fs gs → map joint_of gs ≡ map raw_joint fs
  joints_mean n [] [] all = refl
  joints_mean n [] (g ∷ gs) all = absurd all
  joints_mean n (f ∷ fs) [] all = absurd all
  joints_mean n (f ∷ fs) (g ∷ gs) all =
      ap (λ x. x ∷ map joint_of gs) (joint_means n f g all.0) ∙ ap (λ l. raw_joint f ∷ l) (joints_mean (n + nodes_in (terms_of_formula f)) fs gs all.1)

  outer : OuterIsOutermost (map joint_of rule.precondition)
  outer = subst OuterIsOutermost (sym (joints_mean (nodes_in (target_terms raw)) (formula_of raw) rule.precondition means.precondition)) well.outer

  -- ---- widths

  -- a register that a target statement may use as written is one that it may read
  target_use : (k : ℕ) (name : List ℕ) (r : Register) → MayUse raw (places.Target k) name → HasName raw own r name → TargetMayRead rule k (arguments.Register r)
  target_use k name r may has = elim (target_register raw own bound.plain means.names k name r (λ not. not may) has) [
    | inl (i, lt, e) ↦ subst (λ x. TargetMayRead rule k (arguments.Register x)) (sym e) lt
    | inr (inl (j, lt, e)) ↦ subst (λ x. TargetMayRead rule k (arguments.Register x)) (sym e) (subst (λ n. suc j < n) (sym source_length) lt)
    | inr (inr (j, lt, e)) ↦ subst (λ x. TargetMayRead rule k (arguments.Register x)) (sym e) lt
  ]

  -- a term of a statement of the target
  target_term : (k n : ℕ) (w : RawStatement) (t : List RawNode) (front back : List RawArgument) → slice_get raw.target k ≡ Some w → Contains (arguments_of w.op) (raw_arguments.Term t)
      → counted_among raw.target ≡ front ++ raw_arguments.Term t ∷ back → suc n ≡ nodes_in (flat_map terms_of_argument front) + length t → TargetMayMeasure rule k (arguments.Term n)
  target_term k n w t front back at among whole end r names =
      let before : List (List RawNode) = flat_map terms_of_argument front in
      let behind : List (List RawNode) = flat_map terms_of_argument back ++ flat_map terms_of_formula (formula_of raw) in
      let split : target_terms raw ≡ before ++ t ∷ flat_map terms_of_argument back = sym (counted_terms raw.target) ∙ ap (flat_map terms_of_argument) whole ∙ flat_map-append terms_of_argument front (raw_arguments.Term t ∷ back) in
      let all : terms_of raw ≡ before ++ t ∷ behind = ap (λ l. l ++ flat_map terms_of_formula (formula_of raw)) split ∙ append_assoc before (t ∷ flat_map terms_of_argument back) (flat_map terms_of_formula (formula_of raw)) in
      let term : IsTerm t = well.terms t (subst (λ l. Contains l t) (sym all) (Contains-amid before t behind)) in
      let (name, inside, has) = measures raw own before t behind rule.terms (subst (λ l. TermsMean raw own l rule.terms) all means.terms) term n r (omega (arith, end)) names in
      let there : TermIsBound raw (places.Target k) t = each_in (ArgumentIsBound raw (places.Target k)) (arguments_of w.op) (raw_arguments.Term t) (bound.there.target k w at) among in
      target_use k name r (each_in (NodeIsBound raw (places.Target k)) t (raw_nodes.Width name) there inside) has

  -- an operand of it, with these counts before
  target_operand : (k : ℕ) (w : RawStatement) (b : Counts) (v : RawArgument) (front back : List RawArgument) (a : Argument) → slice_get raw.target k ≡ Some w → Contains (arguments_of w.op) v
      → counted_among raw.target ≡ front ++ v ∷ back → b ≡ past_all no_counts front → ArgumentMeans raw own b v a → TargetMayMeasure rule k a
  target_operand k w b (raw_arguments.Term t) front back (arguments.Term n) at among whole is goes =
      let count : b.nodes ≡ 0 + nodes_in (flat_map terms_of_argument front) = ap (λ (c : Counts). c.nodes) is ∙ nodes_past no_counts front in
      target_term k n w t front back at among whole (omega (arith, goes, count))
  target_operand k w b v front back (arguments.Term n) at among whole is goes = absurd goes
  target_operand k w b v front back a at among whole is goes = tt

  target_widths : (k : ℕ) (s : Statement) (o : Operand) → slice_get rule.target k ≡ Some s → Contains (operands_meant s.op) o → TargetMayMeasure rule k o.value
  target_widths k s o at among =
      let (x, there, goes) = zip_right (λ (x : Counts × RawStatement) (y : Statement). StatementMeans raw own x.0 x.1 y) (with_counts no_counts raw.target) rule.target k s means.target at in
      let (front, back, whole, is) = statement_split no_counts raw.target k x there in
      let (q, place) = somewhere (operands_meant s.op) o among in
      let (y, spot, reads) = zip_right (Goes raw own) (with_before x.0 (arguments_of x.1.op)) (operands_meant s.op) q o (operands_go raw own x.0 x.1.op s.op goes.1) place in
      let (front', behind, whole', is') = argument_split x.0 (arguments_of x.1.op) q y spot in
      let (frozen, counted) = counted_behind x.1.op in
      let back' : List RawArgument = behind ++ frozen in
      let own_part : counted_of x.1.op ≡ front' ++ y.1 ∷ back' = counted ∙ ap (λ l. l ++ frozen) whole' ∙ append_assoc front' (y.1 ∷ behind) frozen in
      let all : counted_among raw.target ≡ (front ++ front') ++ y.1 ∷ (back' ++ back) =
      whole ∙ ap (λ l. front ++ (l ++ back)) own_part ∙ ap (λ l. front ++ l) (append_assoc front' (y.1 ∷ back') back) ∙ sym (append_assoc front front' (y.1 ∷ (back' ++ back))) in
      let before : y.0 ≡ past_all no_counts (front ++ front') = is' ∙ ap (λ c. past_all c front') is ∙ sym (past_append no_counts front front') in
      target_operand k x.1 y.0 y.1 (front ++ front') (back' ++ back) o.value (with_counts_at no_counts raw.target k x there)
      (Contains-from_get (arguments_of x.1.op) q y.1 (with_before_at x.0 (arguments_of x.1.op) q y spot)) all before reads

  -- a term of the precondition
  formula_term : (n : ℕ) (t : List RawNode) (before behind : List (List RawNode)) → terms_of raw ≡ before ++ t ∷ behind → suc n ≡ nodes_in before + length t → TermIsBound raw places.Heading t → MeasuresBeforeRoot rule n
  formula_term n t before behind all end there r names =
      let term : IsTerm t = well.terms t (subst (λ l. Contains l t) (sym all) (Contains-amid before t behind)) in
      let (name, inside, has) = measures raw own before t behind rule.terms (subst (λ l. TermsMean raw own l rule.terms) all means.terms) term n r (omega (arith, end)) names in
      before_root name r (each_in (NodeIsBound raw places.Heading) t (raw_nodes.Width name) there inside) has

  formula_measures : (b : ℕ) (w : RawFormula) (f : Formula) (before behind : List (List RawNode)) → FormulaMeans raw own b w f → FormulaIsBound raw w
      → terms_of raw ≡ before ++ (terms_of_formula w ++ behind) → b ≡ nodes_in before → FormulaMayMeasure rule f
  formula_measures b (raw_formulas.Compare pred u v) (formulas.Compare pred' x y) before behind is there all count = (
    formula_term x u before (v ∷ behind) all (omega (arith, is.1, count)) there.0,
    formula_term y v (before ++ u ∷ []) behind (all ∙ sym (append_assoc before (u ∷ []) (v ∷ behind))) (omega (arith, is.2, count, nodes_append before (u ∷ []), nodes_append (u ∷ []) [])) there.1,
  )
  formula_measures b (raw_formulas.IsPowerOfTwo u) (formulas.IsPowerOfTwo x) before behind is there all count = formula_term x u before behind all (omega (arith, is, count)) there
  formula_measures b (raw_formulas.IsSignBit u) (formulas.IsSignBit x) before behind is there all count = formula_term x u before behind all (omega (arith, is, count)) there
  formula_measures b (raw_formulas.MaskedValueIsZero name u) (formulas.MaskedValueIsZero y x) before behind is there all count = formula_term x u before behind all (omega (arith, is.1, count)) there.1
  formula_measures b w (formulas.Compare pred' x y) before behind is there all count = absurd is
  formula_measures b w (formulas.IsPowerOfTwo x) before behind is there all count = absurd is
  formula_measures b w (formulas.IsSignBit x) before behind is there all count = absurd is
  formula_measures b w (formulas.MaskedValueIsZero y x) before behind is there all count = absurd is
  formula_measures b w f before behind is there all count = tt

  precondition_widths : (n : ℕ) (f : Formula) → slice_get rule.precondition n ≡ Some f → FormulaMayMeasure rule f
  precondition_widths n f at =
      let start = nodes_in (target_terms raw) in
      let (x, spot, is) = zip_right (λ (x : ℕ × RawFormula) (y : Formula). FormulaMeans raw own x.0 x.1 y) (with_terms start (formula_of raw)) rule.precondition n f means.precondition at in
      let (front, back, whole, count) = formula_split start (formula_of raw) n x spot in
      let early : List (List RawNode) = flat_map terms_of_formula front in
      let late : List (List RawNode) = flat_map terms_of_formula back in
      let split : flat_map terms_of_formula (formula_of raw) ≡ early ++ (terms_of_formula x.1 ++ late) = ap (flat_map terms_of_formula) whole ∙ flat_map-append terms_of_formula front (x.1 ∷ back) in
      let all : terms_of raw ≡ (target_terms raw ++ early) ++ (terms_of_formula x.1 ++ late) =
      ap (λ l. target_terms raw ++ l) split ∙ sym (append_assoc (target_terms raw) early (terms_of_formula x.1 ++ late)) in
      formula_measures x.0 x.1 f (target_terms raw ++ early) late is (each_at (FormulaIsBound raw) (formula_of raw) n x.1 bound.there.precondition (with_terms_at raw own start (formula_of raw) n x spot)) all
      (omega (arith, count, nodes_append (target_terms raw) early))

  -- ---- witnesses

  witnesses_last : AreLastNodes rule.witness_terms 0 rule.witnesses
  witnesses_last =
      let none : 0 + nodes_in [] ≡ 0 = refl in
      subst (AreLastNodes rule.witness_terms 0) (sym means.witnesses)
      (are_last_nodes raw own [] (expressions_of raw) rule.witness_terms means.witness_terms well.expressions (terms_length raw own (expressions_of raw) rule.witness_terms means.witness_terms))

  root_assigned : (j k : ℕ) (s t : Statement) → suc j ≡ length rule.source → slice_get rule.source j ≡ Some s → suc k ≡ length rule.target → slice_get rule.target k ≡ Some t → t.name ≡ s.name
  root_assigned j k s t last at last' at' =
      let (b, v, there, goes) = written raw.source rule.source j s means.source at in
      let (b', w, there', goes') = written raw.target rule.target k t means.target at' in
      let same : w.name ≡ v.name = stable_name w.name v.name (λ differ. bound.root_there w.line (
        k,
        w,
        there',
        (
          last' ∙ target_length,
          λ (i, end, assigns).
              let e : i ≡ j = omega (arith, source_length) in
              differ (same_at (map (λ (s : RawStatement). s.name) raw.source) j w.name v.name (subst (λ n. AssignsAt raw.source n w.name) e assigns) (statement_assigns raw.source j v there)),
        ),
        refl,
      )) in
      goes'.0 ∙ same ∙ sym goes.0

  short_uses : (name : List ℕ) (q : ℕ) → UsesAt raw.source q name → length name ≤ 200
  short_uses name q uses =
      let (k, w, at, among) = flat_at (λ (s : RawStatement). arguments_of s.op) raw.source q (raw_arguments.Register name) uses in
      well.source.short_uses k w name at among

  short_constant : (name : List ℕ) → Contains rule.constants name → length name ≤ 200
  short_constant name among =
      let (q, (a, spot, is)) = (means.names.constants.each name).0 among in
      let (k, w, at, among') = flat_at (λ (s : RawStatement). arguments_of s.op) raw.source q (raw_arguments.Constant name) (spot ∙ ap (λ x. Some x) is) in
      well.source.short_constants k w name at among'

  short_assigned : (ws : List RawStatement) (ss : List Statement) (name : List ℕ) → IsHalf ws → names_of ss ≡ map (λ s. s.name) ws → Contains (names_of ss) name → length name ≤ 200
  short_assigned ws ss name half same among =
      let (k, at) = somewhere (names_of ss) name among in
      let (w, at', is) = assigning_statement ws k name (subst (λ ns. slice_get ns k ≡ Some name) same at) in
      subst (λ n. length n ≤ 200) is (half.short_names k w at')

  source_undefs : (k : ℕ) (s : Statement) → slice_get rule.source k ≡ Some s → ReadsNoUndefAlone s.op
  source_undefs k s at =
      let (b, w, at', goes) = written raw.source rule.source k s means.source at in no_undef_alone raw own b w.op s.op goes.1 (λ alone. bound.undefs_right w.line (inl (k, w, at', inr alone, refl)))

  target_undefs : (k : ℕ) (s : Statement) → slice_get rule.target k ≡ Some s → ReadsNoUndefAlone s.op
  target_undefs k s at =
      let (b, w, at', goes) = written raw.target rule.target k s means.target at in no_undef_alone raw own b w.op s.op goes.1 (λ alone. bound.undefs_right w.line (inr (k, w, at', alone, refl)))

  as_many : length (expressions_of raw) ≡ (in_half raw.source).choices
  as_many = elim (same_number (length (expressions_of raw)) (in_half raw.source).choices) [ inl e ↦ e | inr differ ↦ absurd (bound.enough _ (differ, refl)) ]

  witness_count : length rule.witnesses ≡ length (choices_among rule.source)
  witness_count = ap length means.witnesses ∙ last_nodes_count 0 (expressions_of raw) ∙ as_many ∙ sym (choices_long raw.source rule.source means.source)

  pub checked_rule : IsRule rule
  checked_rule =
      record {
        few_in_source = omega (arith, well.source.few, source_length);
        few_in_target = omega (arith, well.target.few, target_length);
        few_nodes = subst (λ n. n ≤ 256) (sym (same_weight raw rule means)) well.weight;
        short_name = subst (λ n. length n ≤ 200) (sym means.name) well.short_name;
        short_inputs = λ name among. let (q, uses) = (input_name name among).0 in short_uses name q uses;
        short_constants = short_constant;
        short_in_source = λ name among. short_assigned raw.source rule.source name well.source source_names among;
        short_in_target = λ name among. short_assigned raw.target rule.target name well.target target_names among;
        source_names = λ j k name p q. one_place raw.source bound.plain.source_once j k name (source_at j name p) (source_at k name q);
        target_names = λ j k name p q. one_place raw.target bound.plain.target_once j k name (target_at j name p) (target_at k name q);
        source_reads = λ k s o at among. read_in_source k s o at among;
        target_reads = λ k s o at among. read_in_target k s o at among;
        inputs_distinct = means.names.inputs.once;
        inputs_not_assigned = λ name among assigned. let (k, at) = somewhere (names_of rule.source) name assigned in (input_name name among).1 k (source_at k name at);
        inputs_read = all_inputs_read;
        inputs_in_order = inputs_in_order;
        constants_distinct = means.names.constants.once;
        constants_read = all_constants_read;
        constants_in_order = constants_in_order;
        terms = all_terms;
        witness_terms = all_witness_terms;
        precondition = all_formulas;
        target_widths = target_widths;
        precondition_widths = precondition_widths;
        source_root = omega (arith, well.source.some, source_length);
        target_root = omega (arith, well.target.some, target_length);
        root = root_assigned;
        inputs_stay = λ name among assigned. let (k, at) = somewhere (names_of rule.target) name assigned in not_redefined raw own bound.plain means.names k name (target_at k name at) (inl (input_name name among));
        temporaries_stay = λ j s before at assigned.
            let (k, at') = somewhere (names_of rule.target) s.name assigned in
            let mine : AssignsAt raw.source j s.name = source_at j s.name (map_at (λ (s : Statement). s.name) rule.source j s at) in
            not_redefined raw own bound.plain means.names k s.name (target_at k s.name at') (inr (j, (subst (λ n. suc j < n) source_length before), mine));
        temporaries_read = temporaries_read;
        outer = outer;
        source_ops = λ k s at. let (b, w, at', goes) = written raw.source rule.source k s means.source at in in_source raw own rule k b w.op s.op goes.1 (well.source_ops k w at') (λ freeze. at_root k w at' (inr freeze));
        source_flags = λ k s at. let (b, w, at', goes) = written raw.source rule.source k s means.source at in fits raw own b w.op s.op goes.1 (well.source.flags_fit k w at');
        target_flags = λ k s at. let (b, w, at', goes) = written raw.target rule.target k s means.target at in fits raw own b w.op s.op goes.1 (well.target.flags_fit k w at');
        source_choices = choices_in_order raw.source rule.source means.source;
        target_choices = choices_in_order raw.target rule.target means.target;
        source_undefs = source_undefs;
        target_undefs = target_undefs;
        witnesses = witness_count;
        witnesses_there = λ k n at. omega (arith, last_within 0 (expressions_of raw) k n (λ t among. (well.expressions t among).some) (subst (λ l. slice_get l k ≡ Some n) means.witnesses at), terms_length raw own (expressions_of raw) rule.witness_terms means.witness_terms);
        witnesses_last = witnesses_last;
      }
