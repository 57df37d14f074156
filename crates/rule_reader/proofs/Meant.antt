-- A rule as written that names nothing unbound means some rule.
use Rattle.rule_reader.proofs.Common.{◌≡◌, inl, inr, ℕ, suc, ◌+◌, ◌-◌, List, [], ◌∷◌, ◌++◌, length, append_assoc, Some, refl, sym, subst, arith, slice_get, Contains, AllZip, append-nil, RawRule, RawStatement, RawOp, RawOperand, RawArgument, RawNode, RawFormula, Rule, Statement, Op, Operand, Argument, Node, Formula, Contains-from_get, dec_one, Names, Counts, UseSite, arguments_of, arguments_among, terms_of, terms_of_formula, expressions_of, formula_of, target_terms, nodes_in, past, past_all, counted_of, no_counts, with_counts, with_nodes, with_terms, last_nodes, AssignsAt, IsConstant, AreNames, HasName, ArgumentMeans, OperandMeans, OpMeans, StatementMeans, NodeMeans, FormulaMeans, Means, IsTerm, IsWellFormed, AddsNames, AreNamesAmong, Each, MayUse, ArgumentIsBound, NodeIsBound, TermIsBound, FormulaIsBound, UnboundAt, IsWhole, NamesAreThere}
use Rattle.rule_parse.specs.declared.raw.RawOp.TheVariants as raw_ops
use Rattle.rule_parse.specs.declared.raw.RawArgument.TheVariants as raw_arguments
use Rattle.rule_terms.specs.declared.raw.RawNode.TheVariants as raw_nodes
use Rattle.rule_terms.specs.declared.raw.RawFormula.TheVariants as raw_formulas
use Rattle.rule_core.specs.declared.rule.Op.TheVariants as ops
use Rattle.rule_core.specs.declared.rule.Argument.TheVariants as arguments
use Rattle.rule_core.specs.declared.rule.Register.{Register}
use Rattle.rule_core.specs.declared.rule.Register.TheVariants as registers
use Rattle.rule_core.specs.declared.rule.Term.{Term}
use Rattle.rule_core.specs.declared.rule.Node.TheVariants as nodes
use Rattle.rule_core.specs.declared.rule.Formula.TheVariants as formulas
use Rattle.rule_reader.specs.declared.place.UseSite.TheVariants as places
use Rattle.rule_reader.specs.declared.place.Half.TheVariants as halves
use Rattle.rule_reader.proofs.InputLemmas.{no_names, more_names, all_names}
use Rattle.rule_reader.proofs.Places.{somewhere}
use Rattle.rule_reader.proofs.Members.{each_in, each_at, each_of}
use Rattle.rule_reader.proofs.Nodes.{node_at}
use Rattle.rule_reader.proofs.NameDecisions.{dec_name, dec_assigned}
use Rattle.rule_reader.proofs.Found.{of_input, of_constant}
use Rattle.rule_reader.proofs.Building.{whole_half, formula_term}
use Rattle.rule_reader.proofs.There.{term_there, names_there}

-- ---- names

with_argument : (source : List RawStatement) (before : Names) (a : RawArgument) → (after : Names) × AddsNames source before a after
with_argument source before (raw_arguments.Literal z) = (before, record { inputs = inr (λ n g. cc, refl); constants = inr (λ n g. cc, refl) })
with_argument source before (raw_arguments.Truth b) = (before, record { inputs = inr (λ n g. cc, refl); constants = inr (λ n g. cc, refl) })
with_argument source before raw_arguments.Undef = (before, record { inputs = inr (λ n g. cc, refl); constants = inr (λ n g. cc, refl) })
with_argument source before (raw_arguments.Term t) = (before, record { inputs = inr (λ n g. cc, refl); constants = inr (λ n g. cc, refl) })
with_argument source before (raw_arguments.Constant name) = elim (dec_one (λ other. other ≡ name) before.constants (λ other. dec_name other name)) [
  | yes (other, among, same) ↦ (before, record { inputs = inr (λ n g. cc, refl); constants = inl (name, refl, inr (subst (Contains before.constants) same among, refl)) })
  | no new ↦ (record { inputs = before.inputs; constants = before.constants ++ name ∷ [] }, record { inputs = inr (λ n g. cc, refl); constants = inl (name, refl, inl (λ among. new (name, among, refl), refl)) })
]
with_argument source before (raw_arguments.Register name) = elim (dec_assigned source name) [
  | yes (k, at) ↦ (before, record { inputs = inr (λ n g. let same : name ≡ n = cc in g.1 k (subst (AssignsAt source k) same at), refl); constants = inr (λ n g. cc, refl) })
  | no free ↦ elim (dec_one (λ other. other ≡ name) before.inputs (λ other. dec_name other name)) [
    | yes (other, among, same) ↦ (before, record { inputs = inl (name, (refl, λ k at. free (k, at)), inr (subst (Contains before.inputs) same among, refl)); constants = inr (λ n g. cc, refl) })
    | no new ↦ (record { inputs = before.inputs ++ name ∷ []; constants = before.constants }, record { inputs = inl (name, (refl, λ k at. free (k, at)), inl (λ among. new (name, among, refl), refl)); constants = inr (λ n g. cc, refl) })
  ]
]

with_arguments : (source : List RawStatement) (seen : List RawArgument) (before : Names) (left : List RawArgument) → AreNamesAmong source seen before → (after : Names) × AreNamesAmong source (seen ++ left) after
with_arguments source seen before [] uses = (before, subst (λ l. AreNamesAmong source l before) (sym (append-nil seen)) uses)
with_arguments source seen before (a ∷ left) uses =
    let (next, added) = with_argument source before a in
    let (after, all) = with_arguments source (seen ++ a ∷ []) next left (more_names source seen before next a uses added) in
    (after, subst (λ l. AreNamesAmong source l after) (append_assoc seen (a ∷ []) left) all)

some_names : (source : List RawStatement) → (names : Names) × AreNames source names
some_names source = let (names, uses) = with_arguments source [] _ (arguments_among source) (no_names source) in (names, all_names source names uses)

-- ---- statements

module _ (raw : RawRule) (names : Names) (are : AreNames raw.source names) where
  some_register : (place : UseSite) (name : List ℕ) → MayUse raw place name → (r : Register) × HasName raw names r name
  some_register (places.Source k) name (inl input) = let (i, at) = somewhere names.inputs name (of_input raw.source names are name input) in (registers.Input i, at)
  some_register (places.Source k) name (inr (j, lt, at)) = (registers.Source j, at)
  some_register (places.Target k) name (not_root, inl input) = let (i, at) = somewhere names.inputs name (of_input raw.source names are name input) in (registers.Input i, at)
  some_register (places.Target k) name (not_root, inr (inl (j, lt, at))) = (registers.Source j, at)
  some_register (places.Target k) name (not_root, inr (inr (j, lt, at))) = (registers.Target j, at)
  some_register places.Heading name (inl input) = let (i, at) = somewhere names.inputs name (of_input raw.source names are name input) in (registers.Input i, at)
  some_register places.Heading name (inr (j, lt, at)) = (registers.Source j, at)

  some_constant : (name : List ℕ) → IsConstant raw.source name → (k : ℕ) × (slice_get names.constants k ≡ Some name)
  some_constant name is = somewhere names.constants name (of_constant raw.source names are name is)

  some_argument : (place : UseSite) (u : Counts) (w : RawArgument) → ArgumentIsBound raw place w → IsWhole w → (a : Argument) × ArgumentMeans raw names u w a
  some_argument place u (raw_arguments.Register name) bound whole = let (r, is) = some_register place name bound in (arguments.Register r, is)
  some_argument place u (raw_arguments.Literal z) bound whole = (arguments.Literal z, refl)
  some_argument place u (raw_arguments.Truth b) bound whole = (arguments.Truth b, refl)
  some_argument place u (raw_arguments.Constant name) bound whole = let (k, is) = some_constant name bound in (arguments.Constant k, is)
  some_argument place u raw_arguments.Undef bound whole = (arguments.Undef u.choices, refl)
  some_argument place u (raw_arguments.Term t) bound whole = (arguments.Term (u.nodes + length t - 1), omega (arith, whole.some))

  some_operand : (place : UseSite) (u : Counts) (w : RawOperand) → ArgumentIsBound raw place w.value → IsWhole w.value → (o : Operand) × OperandMeans raw names u w o
  some_operand place u w bound whole = let (a, means) = some_argument place u w.value bound whole in (record { value = a; written = w.written; class = 0 }, (refl, means))

  some_op : (place : UseSite) (u : Counts) (w : RawOp) → Each (ArgumentIsBound raw place) (arguments_of w) → Each IsWhole (arguments_of w) → (op : Op) × OpMeans raw names u w op
  some_op place u (raw_ops.Binary op flags a b) bound whole =
      let (x, left) = some_operand place u a bound.0 whole.0 in
      let (y, right) = some_operand place (past u a.value) b bound.1.0 whole.1.0 in
      (ops.Binary op flags x y, (refl, refl, left, right))
  some_op place u (raw_ops.Compare pred samesign a b) bound whole =
      let (x, left) = some_operand place u a bound.0 whole.0 in
      let (y, right) = some_operand place (past u a.value) b bound.1.0 whole.1.0 in
      (ops.Compare pred samesign x y, (refl, refl, left, right))
  some_op place u (raw_ops.Unary op truth a) bound whole = let (x, means) = some_operand place u a bound.0 whole.0 in (ops.Unary op truth x, (refl, refl, means))
  some_op place u (raw_ops.Select c a b) bound whole =
      let (z, condition) = some_operand place u c bound.0 whole.0 in
      let (x, if_true) = some_operand place (past u c.value) a bound.1.0 whole.1.0 in
      let (y, if_false) = some_operand place (past (past u c.value) a.value) b bound.1.1.0 whole.1.1.0 in
      (ops.Select z x y, (condition, if_true, if_false))
  some_op place u (raw_ops.Convert cast flags a to) bound whole = let (x, means) = some_operand place u a bound.0 whole.0 in (ops.Convert cast flags x to, (refl, refl, means, refl))
  some_op place u (raw_ops.Freeze a) bound whole = let (x, means) = some_operand place u a bound.0 whole.0 in (ops.Freeze x (past u a.value).choices, (means, refl))
  some_op place u (raw_ops.Copy a) bound whole = let (x, means) = some_operand place u a bound.0 whole.0 in (ops.Copy x, means)

  some_statements : (u : Counts) (ws : List RawStatement) → ((k : ℕ) (w : RawStatement) (v : Counts) → slice_get ws k ≡ Some w → (op : Op) × OpMeans raw names v w.op op) → (ss : List Statement) × AllZip (λ w s. StatementMeans raw names w.0 w.1 s) (with_counts u ws) ss
  some_statements u [] each = ([], tt)
  some_statements u (w ∷ ws) each =
      let (op, means) = each 0 w u refl in
      let (ss, all) = some_statements (past_all u (counted_of w.op)) ws (λ k x v at. each (suc k) x v at) in
      (record { name = w.name; class = 0; op = op } ∷ ss, ((refl, means), all))

  -- ---- terms and the formula

  some_node : (place : UseSite) (b : ℕ) (w : RawNode) → NodeIsBound raw place w → (x : Node) × NodeMeans raw names b w x
  some_node place b (raw_nodes.Literal z) bound = (nodes.Literal z, refl)
  some_node place b (raw_nodes.Constant name) bound = let (k, is) = some_constant name bound in (nodes.Constant k, is)
  some_node place b (raw_nodes.Register name) bound = let (r, is) = some_register place name bound in (nodes.Register r, is)
  some_node place b (raw_nodes.Choice k) bound = (nodes.Choice k, refl)
  some_node place b (raw_nodes.Width name) bound = let (r, is) = some_register place name bound in (nodes.Width r 0, is)
  some_node place b (raw_nodes.Unary f a) bound = (nodes.Unary f (b + a), (refl, refl))
  some_node place b (raw_nodes.Binary op a c) bound = (nodes.Binary op (b + a) (b + c), (refl, refl, refl))

  some_terms : (ws : List (ℕ × RawNode)) → ((q : ℕ) (w : ℕ × RawNode) → slice_get ws q ≡ Some w → (x : Node) × NodeMeans raw names w.0 w.1 x) → (terms : List Term) × AllZip (λ w t. NodeMeans raw names w.0 w.1 t.node) ws terms
  some_terms [] each = ([], tt)
  some_terms (w ∷ ws) each =
      let (node, means) = each 0 w refl in
      let (terms, all) = some_terms ws (λ k v at. each (suc k) v at) in
      (record { class = 0; node = node } ∷ terms, (means, all))

  some_formula : (b : ℕ) (w : RawFormula) → FormulaIsBound raw w → Each IsTerm (terms_of_formula w) → (f : Formula) × FormulaMeans raw names b w f
  some_formula b (raw_formulas.Compare pred u v) bound whole = (formulas.Compare pred (b + length u - 1) (b + length u + length v - 1), (refl, omega (arith, whole.0.some), omega (arith, whole.1.0.some)))
  some_formula b (raw_formulas.IsPowerOfTwo u) bound whole = (formulas.IsPowerOfTwo (b + length u - 1), omega (arith, whole.0.some))
  some_formula b (raw_formulas.IsSignBit u) bound whole = (formulas.IsSignBit (b + length u - 1), omega (arith, whole.0.some))
  some_formula b (raw_formulas.HasOneUse name) bound whole = (formulas.HasOneUse bound.0, bound.2)
  some_formula b (raw_formulas.MaskedValueIsZero name u) bound whole =
      let (r, is) = some_register places.Heading name bound.0 in
      (formulas.MaskedValueIsZero r (b + length u - 1), (is, omega (arith, whole.0.some)))
  some_formula b (raw_formulas.IsKnownNonZero name) bound whole = let (r, is) = some_register places.Heading name bound in (formulas.IsKnownNonZero r, is)
  some_formula b (raw_formulas.Not a) bound whole = (formulas.Not a, refl)
  some_formula b (raw_formulas.And a c) bound whole = (formulas.And a c, (refl, refl))
  some_formula b (raw_formulas.Or a c) bound whole = (formulas.Or a c, (refl, refl))

  some_precondition : (n : ℕ) (ws : List RawFormula) → ((k : ℕ) (w : RawFormula) (b : ℕ) → slice_get ws k ≡ Some w → (f : Formula) × FormulaMeans raw names b w f) → (fs : List Formula) × AllZip (λ w f. FormulaMeans raw names w.0 w.1 f) (with_terms n ws) fs
  some_precondition n [] each = ([], tt)
  some_precondition n (w ∷ ws) each =
      let (f, means) = each 0 w n refl in
      let (fs, all) = some_precondition (n + nodes_in (terms_of_formula w)) ws (λ k v b at. each (suc k) v b at) in
      (f ∷ fs, (means, all))

pub some_rule : (raw : RawRule) → IsWellFormed raw → ((line : ℕ) → ¬ UnboundAt raw line) → (rule : Rule) × Means raw rule
some_rule raw well none =
    let bound : NamesAreThere raw = names_there raw none in
    let (names, are) = some_names raw.source in
    let (source, sources) = some_statements raw names are no_counts raw.source (λ k w v at. some_op raw names are (places.Source k) v w.op (bound.source k w at) (whole_half raw well halves.Source k w at)) in
    let (target, targets) = some_statements raw names are no_counts raw.target (λ k w v at. some_op raw names are (places.Target k) v w.op (bound.target k w at) (whole_half raw well halves.Target k w at)) in
    let (terms, constant) = some_terms raw names are (with_nodes 0 (terms_of raw)) (λ q w at.
    let (t, among, (k, spot, sum)) = node_at 0 (terms_of raw) q w at in
    elim (term_there raw bound t w.1 among (Contains-from_get t k w.1 spot)) [ inl (j, lt, named) ↦ some_node raw names are (places.Target j) w.0 w.1 named | inr named ↦ some_node raw names are places.Heading w.0 w.1 named ]) in
    let (witness, choices) = some_terms raw names are (with_nodes 0 (expressions_of raw)) (λ q w at.
    let (t, among, (k, spot, sum)) = node_at 0 (expressions_of raw) q w at in
    some_node raw names are places.Heading w.0 w.1 (each_in (NodeIsBound raw places.Heading) t w.1 (each_in (TermIsBound raw places.Heading) (expressions_of raw) t bound.witness among) (Contains-from_get t k w.1 spot))) in
    let (formula, precondition) = some_precondition raw names are (nodes_in (target_terms raw)) (formula_of raw) (λ k w b at.
    some_formula raw names are b w (each_at (FormulaIsBound raw) (formula_of raw) k w bound.precondition at) (each_of IsTerm (terms_of_formula w) (λ t among. well.terms t (formula_term raw k w t at among)))) in (
      record { name = raw.name; inputs = names.inputs; constants = names.constants; source = source; target = target; terms = terms; precondition = formula; witness_terms = witness; witnesses = last_nodes 0 (expressions_of raw) },
      record { name = refl; names = are; source = sources; target = targets; terms = constant; precondition = precondition; witness_terms = choices; witnesses = refl },
    )
