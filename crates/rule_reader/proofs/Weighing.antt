-- Bounds on counts, from what a rule as written counts as.
use Rattle.rule_reader.proofs.Common.{◌≡◌, ℕ, ◌+◌, ◌≤◌, List, [], ◌∷◌, ◌++◌, length, refl, sym, ap, ◌∙◌, arith, Contains, flat_map, sum_by-append, append-nil, flat_map-append, RawRule, RawStatement, RawOp, RawArgument, Literal, Truth, Constant, Undef, RawNode, Counts, arguments_of, arguments_among, formula_of, terms_of_argument, terms_of_formula, target_terms, terms_of, expressions_of, nodes_in, past, past_all, counted_of, counted_among, no_counts, in_half, argument_weight, node_weight, IsWellFormed, AreFew, Contains-from_get}
use Rattle.std.proofs.Common.{sum_by}
use Rattle.rule_parse.specs.declared.raw.RawOp.TheVariants as raw_ops
use Rattle.rule_parse.specs.declared.raw.RawArgument.TheVariants.{Register, Term}
use Rattle.rule_terms.specs.declared.raw.RawNode.TheVariants as raw_nodes
use Rattle.rule_reader.proofs.Places.{somewhere}
use Rattle.rule_reader.proofs.Members.{flat_at, Contains-behind}
use Rattle.rule_reader.proofs.Nodes.{nodes_append}

pub sum_cons : {X : Type 0} (f : X → ℕ) (x : X) (xs : List X) → sum_by f (x ∷ xs) ≡ f x + sum_by f xs
sum_cons f x xs = sum_by-append f (x ∷ []) xs ∙ ap (λ n. n + sum_by f xs) (omega arith)

choices_past : (c : Counts) (a : RawArgument) → (past c a).choices ≤ c.choices + argument_weight a
choices_past c (Register name) = omega arith
choices_past c (Literal z) = omega arith
choices_past c (Truth b) = omega arith
choices_past c (Constant name) = omega arith
choices_past c Undef = omega arith
choices_past c (Term t) = omega arith

choices_weigh : (c : Counts) (xs : List RawArgument) → (past_all c xs).choices ≤ c.choices + sum_by argument_weight xs
choices_weigh c [] = omega arith
choices_weigh c (a ∷ xs) = omega (arith, choices_past c a, choices_weigh (past c a) xs, sum_cons argument_weight a xs)

nodes_past : (c : Counts) (a : RawArgument) → (past c a).nodes ≡ c.nodes + nodes_in (terms_of_argument a)
nodes_past c (Register name) = omega arith
nodes_past c (Literal z) = omega arith
nodes_past c (Truth b) = omega arith
nodes_past c (Constant name) = omega arith
nodes_past c Undef = omega arith
nodes_past c (Term t) = omega arith

-- the nodes that are counted behind operands are those of their terms
pub nodes_weigh : (c : Counts) (xs : List RawArgument) → (past_all c xs).nodes ≡ c.nodes + nodes_in (flat_map terms_of_argument xs)
nodes_weigh c [] = omega arith
nodes_weigh c (a ∷ xs) = omega (arith, nodes_past c a, nodes_weigh (past c a) xs, nodes_append (terms_of_argument a) (flat_map terms_of_argument xs))

one_node : (node : RawNode) → 1 ≤ node_weight node
one_node (raw_nodes.Literal z) = omega arith
one_node (raw_nodes.Constant name) = omega arith
one_node (raw_nodes.Register name) = omega arith
one_node (raw_nodes.Choice k) = omega arith
one_node (raw_nodes.Width name) = omega arith
one_node (raw_nodes.Unary f a) = omega arith
one_node (raw_nodes.Binary op a b) = omega arith

term_weighs : (t : List RawNode) → length t ≤ sum_by node_weight t
term_weighs [] = omega arith
term_weighs (node ∷ t) = omega (arith, one_node node, term_weighs t, sum_cons node_weight node t)

terms_weigh : (ts : List (List RawNode)) → nodes_in ts ≤ sum_by (λ t. sum_by node_weight t) ts
terms_weigh [] = omega arith
terms_weigh (t ∷ ts) = omega (arith, term_weighs t, terms_weigh ts, sum_cons length t ts, sum_cons (λ (t : List RawNode). sum_by node_weight t) t ts)

-- a freeze counts as one operand more, and as no term
one_counted : (op : RawOp) → (sum_by argument_weight (counted_of op) ≤ sum_by argument_weight (arguments_of op) + 1) × (flat_map terms_of_argument (counted_of op) ≡ flat_map terms_of_argument (arguments_of op))
one_counted (raw_ops.Binary op flags a b) = (omega arith, refl)
one_counted (raw_ops.Compare pred samesign a b) = (omega arith, refl)
one_counted (raw_ops.Unary op truth a) = (omega arith, refl)
one_counted (raw_ops.Select c a b) = (omega arith, refl)
one_counted (raw_ops.Convert cast flags a to) = (omega arith, refl)
one_counted (raw_ops.Freeze a) = (
  omega (arith, sum_cons argument_weight a.value (Undef ∷ []), sum_cons argument_weight a.value [], sum_cons argument_weight Undef []),
  flat_map-append terms_of_argument (a.value ∷ []) (Undef ∷ []) ∙ append-nil (flat_map terms_of_argument (a.value ∷ [])),
)
one_counted (raw_ops.Copy a) = (omega arith, refl)

counted_weighs : (ss : List RawStatement) → sum_by argument_weight (counted_among ss) ≤ sum_by argument_weight (arguments_among ss) + length ss
counted_weighs [] = omega arith
counted_weighs (s ∷ ss) =
    omega (arith, (one_counted s.op).0, counted_weighs ss, sum_by-append argument_weight (counted_of s.op) (counted_among ss), sum_by-append argument_weight (arguments_of s.op) (arguments_among ss))

pub counted_terms : (ss : List RawStatement) → flat_map terms_of_argument (counted_among ss) ≡ flat_map terms_of_argument (arguments_among ss)
counted_terms [] = refl
counted_terms (s ∷ ss) =
    flat_map-append terms_of_argument (counted_of s.op) (counted_among ss)
    ∙ ap (λ l. l ++ flat_map terms_of_argument (counted_among ss)) (one_counted s.op).1
    ∙ ap (λ l. flat_map terms_of_argument (arguments_of s.op) ++ l) (counted_terms ss)
    ∙ sym (flat_map-append terms_of_argument (arguments_of s.op) (arguments_among ss))

module _ (raw : RawRule) (well : IsWellFormed raw) where
  arguments_weigh : sum_by argument_weight (arguments_among (raw.source ++ raw.target)) ≡ sum_by argument_weight (arguments_among raw.source) + sum_by argument_weight (arguments_among raw.target)
  arguments_weigh = ap (sum_by argument_weight) (flat_map-append (λ (s : RawStatement). arguments_of s.op) raw.source raw.target) ∙ sum_by-append argument_weight (arguments_among raw.source) (arguments_among raw.target)

  nodes_weigh_all : nodes_in (terms_of raw) + nodes_in (expressions_of raw) ≤ 256
  nodes_weigh_all = omega (arith, well.weight, terms_weigh (terms_of raw ++ expressions_of raw), nodes_append (terms_of raw) (expressions_of raw))

  pub few_terms : nodes_in (terms_of raw) ≤ 256
  few_terms = omega (arith, nodes_weigh_all)

  pub few_expressions : nodes_in (expressions_of raw) ≤ 256
  few_expressions = omega (arith, nodes_weigh_all)

  pub few_in_target : AreFew (in_half raw.target)
  few_in_target = (
    omega (arith, well.weight, well.target.few, arguments_weigh, counted_weighs raw.target, choices_weigh no_counts (counted_among raw.target)),
    omega (arith, few_terms, nodes_weigh no_counts (counted_among raw.target), ap nodes_in (counted_terms raw.target), nodes_append (target_terms raw) (flat_map terms_of_formula (formula_of raw))),
  )

  -- the source has no terms, so no nodes of terms are counted
  none_in : (xs : List RawArgument) → ((t : List RawNode) → ¬ Contains xs (Term t)) → flat_map terms_of_argument xs ≡ []
  none_in [] none = refl
  none_in (Register name ∷ xs) none = none_in xs (λ t among. none t (Contains-behind (Register name) xs (Term t) among))
  none_in (Literal z ∷ xs) none = none_in xs (λ t among. none t (Contains-behind (Literal z) xs (Term t) among))
  none_in (Truth b ∷ xs) none = none_in xs (λ t among. none t (Contains-behind (Truth b) xs (Term t) among))
  none_in (Constant name ∷ xs) none = none_in xs (λ t among. none t (Contains-behind (Constant name) xs (Term t) among))
  none_in (Undef ∷ xs) none = none_in xs (λ t among. none t (Contains-behind Undef xs (Term t) among))
  none_in (Term t ∷ xs) none = absurd (none t (Contains-from_get (Term t ∷ xs) 0 (Term t) refl))

  no_source_terms : (t : List RawNode) → ¬ Contains (arguments_among raw.source) (Term t)
  no_source_terms t among =
      let (q, at) = somewhere (arguments_among raw.source) (Term t) among in
      let (k, s, at', here) = flat_at (λ (s : RawStatement). arguments_of s.op) raw.source q (Term t) at in
      well.source_arguments k s t at' here

  pub few_in_source : AreFew (in_half raw.source)
  few_in_source = (
    omega (arith, well.weight, well.source.few, arguments_weigh, counted_weighs raw.source, choices_weigh no_counts (counted_among raw.source)),
    omega (arith, nodes_weigh no_counts (counted_among raw.source), ap nodes_in (counted_terms raw.source), ap nodes_in (none_in (arguments_among raw.source) no_source_terms)),
  )
