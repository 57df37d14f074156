-- A rule that is meant counts as many operands, nodes and names as the rule as written.
use Rattle.rule_reader.proofs.Common.{◌≡◌, ℕ, ◌+◌, List, [], ◌∷◌, ◌++◌, length, refl, ap, ◌∙◌, arith, map, AllZip, sum_by-append, flat_map-append, RawRule, RawStatement, RawArgument, RawNode, RawFormula, Rule, Statement, Operand, Argument, Node, Formula, term_weight, weight_of, operands_among, operands_in, Counts, Names, arguments_of, arguments_among, formula_of, expressions_of, target_terms, terms_of, terms_of_formula, nodes_in, no_counts, with_nodes, with_terms, ArgumentMeans, NodeMeans, FormulaMeans, Means, names_of_rule, argument_weight, node_weight, formula_weight, raw_weight}
use Rattle.std.proofs.Common.{sum_by}
use Rattle.rule_parse.specs.declared.raw.RawArgument.TheVariants as raw_arguments
use Rattle.rule_terms.specs.declared.raw.RawNode.TheVariants as raw_nodes
use Rattle.rule_terms.specs.declared.raw.RawFormula.TheVariants as raw_formulas
use Rattle.rule_core.specs.declared.rule.Argument.TheVariants as arguments
use Rattle.rule_core.specs.declared.rule.Term.{Term}
use Rattle.rule_core.specs.declared.rule.Node.TheVariants as nodes
use Rattle.rule_core.specs.declared.rule.Formula.TheVariants as formulas
use Rattle.rule_core.specs.Checks.{argument_weight as meant_weight, node_weight as meant_node_weight, formula_weight as meant_formula_weight}
use Rattle.rule_core.specs.Positions.{operands_of as operands_meant}
use Rattle.rule_reader.proofs.Weighing.{sum_cons}
use Rattle.rule_reader.proofs.Meaning.{Reads, all_read}

module _ (raw : RawRule) (names : Names) where
  one_argument : (b : Counts) (v : RawArgument) (a : Argument) → ArgumentMeans raw names b v a → meant_weight a ≡ argument_weight v
  one_argument b (raw_arguments.Register name) (arguments.Register r) means = refl
  one_argument b (raw_arguments.Literal z) (arguments.Literal y) means = refl
  one_argument b (raw_arguments.Truth t) (arguments.Truth u) means = refl
  one_argument b (raw_arguments.Constant name) (arguments.Constant k) means = refl
  one_argument b raw_arguments.Undef (arguments.Undef k) means = refl
  one_argument b (raw_arguments.Term t) (arguments.Term n) means = refl
  one_argument b v a means = absurd means

  operands_weigh : (ws : List RawArgument) (os : List Operand) → AllZip (Reads raw names) ws os → sum_by (λ o. meant_weight o.value) os ≡ sum_by argument_weight ws
  operands_weigh [] [] go = refl
  operands_weigh [] (o ∷ os) go = absurd go
  operands_weigh (w ∷ ws) [] go = absurd go
  operands_weigh (w ∷ ws) (o ∷ os) go =
      omega (arith, one_argument go.0.0 w o.value go.0.1, operands_weigh ws os go.1, sum_cons (λ (o : Operand). meant_weight o.value) o os, sum_cons argument_weight w ws)

  one_node : (b : ℕ) (w : RawNode) (m : Node) → NodeMeans raw names b w m → meant_node_weight m ≡ node_weight w
  one_node b (raw_nodes.Literal z) (nodes.Literal y) means = refl
  one_node b (raw_nodes.Constant name) (nodes.Constant k) means = refl
  one_node b (raw_nodes.Register name) (nodes.Register r) means = refl
  one_node b (raw_nodes.Choice i) (nodes.Choice k) means = refl
  one_node b (raw_nodes.Width name) (nodes.Width r c) means = refl
  one_node b (raw_nodes.Unary f a) (nodes.Unary f' x) means = refl
  one_node b (raw_nodes.Binary op a c) (nodes.Binary op' x y) means = refl
  one_node b w m means = absurd means

  nodes_weigh : (ws : List (ℕ × RawNode)) (terms : List Term) → AllZip (λ w t. NodeMeans raw names w.0 w.1 t.node) ws terms → sum_by term_weight terms ≡ sum_by (λ (w : ℕ × RawNode). node_weight w.1) ws
  nodes_weigh [] [] all = refl
  nodes_weigh [] (t ∷ terms) all = absurd all
  nodes_weigh (w ∷ ws) [] all = absurd all
  nodes_weigh (w ∷ ws) (t ∷ terms) all = omega (arith, one_node w.0 w.1 t.node all.0, nodes_weigh ws terms all.1, sum_cons term_weight t terms, sum_cons (λ (w : ℕ × RawNode). node_weight w.1) w ws)

  named_weigh : (n : ℕ) (t : List RawNode) → sum_by (λ (w : ℕ × RawNode). node_weight w.1) (map (λ (node : RawNode). (n, node)) t) ≡ sum_by node_weight t
  named_weigh n [] = refl
  named_weigh n (w ∷ t) = omega (arith, named_weigh n t, sum_cons node_weight w t, sum_cons (λ (w : ℕ × RawNode). node_weight w.1) (n, w) (map (λ (node : RawNode). (n, node)) t))

  terms_weigh : (n : ℕ) (ts : List (List RawNode)) → sum_by (λ (w : ℕ × RawNode). node_weight w.1) (with_nodes n ts) ≡ sum_by (λ t. sum_by node_weight t) ts
  terms_weigh n [] = refl
  terms_weigh n (t ∷ ts) =
      omega (arith, named_weigh n t, terms_weigh (n + length t) ts, sum_cons (λ (t : List RawNode). sum_by node_weight t) t ts, sum_by-append (λ (w : ℕ × RawNode). node_weight w.1) (map (λ (node : RawNode). (n, node)) t) (with_nodes (n + length t) ts))

  one_formula : (b : ℕ) (w : RawFormula) (f : Formula) → FormulaMeans raw names b w f → meant_formula_weight f ≡ formula_weight w
  one_formula b (raw_formulas.Compare pred u v) (formulas.Compare pred' x y) means = refl
  one_formula b (raw_formulas.IsPowerOfTwo u) (formulas.IsPowerOfTwo x) means = refl
  one_formula b (raw_formulas.IsSignBit u) (formulas.IsSignBit x) means = refl
  one_formula b (raw_formulas.HasOneUse name) (formulas.HasOneUse k) means = refl
  one_formula b (raw_formulas.MaskedValueIsZero name u) (formulas.MaskedValueIsZero r x) means = refl
  one_formula b (raw_formulas.IsKnownNonZero name) (formulas.IsKnownNonZero r) means = refl
  one_formula b (raw_formulas.Not a) (formulas.Not x) means = refl
  one_formula b (raw_formulas.And a c) (formulas.And x y) means = refl
  one_formula b (raw_formulas.Or a c) (formulas.Or x y) means = refl
  one_formula b w f means = absurd means

  formulas_weigh : (n : ℕ) (ws : List RawFormula) (fs : List Formula) → AllZip (λ w f. FormulaMeans raw names w.0 w.1 f) (with_terms n ws) fs → sum_by meant_formula_weight fs ≡ sum_by formula_weight ws
  formulas_weigh n [] [] all = refl
  formulas_weigh n [] (f ∷ fs) all = absurd all
  formulas_weigh n (w ∷ ws) [] all = absurd all
  formulas_weigh n (w ∷ ws) (f ∷ fs) all = omega (arith, one_formula n w f all.0, formulas_weigh (n + nodes_in (terms_of_formula w)) ws fs all.1, sum_cons meant_formula_weight f fs, sum_cons formula_weight w ws)

pub same_weight : (raw : RawRule) (rule : Rule) → Means raw rule → weight_of rule ≡ raw_weight raw
same_weight raw rule means =
    let own : Names = names_of_rule rule in
    let f : Operand → ℕ = λ o. meant_weight o.value in
    let g : List RawNode → ℕ = λ t. sum_by node_weight t in
    let source = operands_weigh raw own (arguments_among raw.source) (operands_among rule.source) (all_read raw own no_counts raw.source rule.source means.source) in
    let target = operands_weigh raw own (arguments_among raw.target) (operands_among rule.target) (all_read raw own no_counts raw.target rule.target means.target) in
    let halves : sum_by f (operands_in rule) ≡ sum_by f (operands_among rule.source) + sum_by f (operands_among rule.target) =
    ap (sum_by f) (flat_map-append (λ (s : Statement). operands_meant s.op) rule.source rule.target) ∙ sum_by-append f (operands_among rule.source) (operands_among rule.target) in
    let raw_halves : sum_by argument_weight (arguments_among (raw.source ++ raw.target)) ≡ sum_by argument_weight (arguments_among raw.source) + sum_by argument_weight (arguments_among raw.target) =
    ap (sum_by argument_weight) (flat_map-append (λ (s : RawStatement). arguments_of s.op) raw.source raw.target) ∙ sum_by-append argument_weight (arguments_among raw.source) (arguments_among raw.target) in
    let terms = nodes_weigh raw own (with_nodes 0 (terms_of raw)) rule.terms means.terms ∙ terms_weigh raw own 0 (terms_of raw) in
    let witness = nodes_weigh raw own (with_nodes 0 (expressions_of raw)) rule.witness_terms means.witness_terms ∙ terms_weigh raw own 0 (expressions_of raw) in
    let both = sum_by-append term_weight rule.terms rule.witness_terms in
    let raw_both = sum_by-append g (terms_of raw) (expressions_of raw) in
    let formula = formulas_weigh raw own (nodes_in (target_terms raw)) (formula_of raw) rule.precondition means.precondition in
    omega (arith, source, target, halves, raw_halves, terms, witness, both, raw_both, formula)
