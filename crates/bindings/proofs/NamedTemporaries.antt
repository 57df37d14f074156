-- Which statements name registers that the source assigns, and which terms have widths of them.
use Rattle.bindings.proofs.Common.{◌≡◌, ◌↔◌, ◌⊎◌, inl, inr, ℕ, ◌+◌, ◌<◌, ◌≤◌, List, length, true, false, IsTrue, Some, refl, sym, ap, subst, ◌∙◌, arith, slice_get, Contains, cases_eq, slice_get_within, same_Some, Contains-flat_map, operands_of, operands_among, IsOperandOf, StandsIn, itself, operand, IsRule, MayBeTerm, Argument, Node, Rule, Statement, Term, SoFar, Has, HasExactly, HasOperandOf, IsTemporaryWidth, NamesAmong, OneNamesAmong, MeasuresTemporary, NamesTemporary, OneNamesTemporary, Nodes}
use Rattle.rule_core.specs.declared.rule.Argument.TheVariants as arguments
use Rattle.rule_core.specs.declared.rule.Node.TheVariants as nodes
use Rattle.rule_core.specs.declared.rule.Operand.{Operand}
use Rattle.rule_core.specs.declared.rule.Register.TheVariants as names
use Rattle.bindings.proofs.Lists.{from_flat_map}

-- one of the statements names one
pub one_names : (set : Nodes) (statements : List Statement) (s : Statement) → Contains statements s → OneNamesAmong set (operands_of s.op) → IsTrue true ↔ OneNamesAmong set (operands_among statements)
one_names set statements s among (o, here, temporary) =
    (λ h. (o, Contains-flat_map (λ (t : Statement). operands_of t.op) statements s o among here, temporary), λ h. refl)

-- none of them names one
pub none_names : (set : Nodes) (statements : List Statement) (i : ℕ) → SoFar (λ (s : Statement). OneNamesAmong set (operands_of s.op) → ⊥) statements i → length statements ≤ i
    → IsTrue false ↔ OneNamesAmong set (operands_among statements)
none_names set statements i none past = (
  λ h. absurd cc,
  λ (o, among, temporary).
      let (j, s, at, here) = from_flat_map (λ (t : Statement). operands_of t.op) statements o among in
      absurd (none j s (omega (arith, slice_get_within statements j s at)) at (o, here, temporary)),
)

-- where the set has the nodes whose terms have such widths, both definitions are the same
module _ (terms : List Term) (set : Nodes) (exactly : HasExactly set (MeasuresTemporary terms)) where
  is_named : (a : Argument) → NamesAmong set a ↔ NamesTemporary terms a
  is_named (arguments.Register (names.Input i)) = (λ h. h, λ h. h)
  is_named (arguments.Register (names.Source j)) = (λ h. h, λ h. h)
  is_named (arguments.Register (names.Target j)) = (λ h. h, λ h. h)
  is_named (arguments.Literal z) = (λ h. h, λ h. h)
  is_named (arguments.Truth b) = (λ h. h, λ h. h)
  is_named (arguments.Constant k) = (λ h. h, λ h. h)
  is_named (arguments.Undef k) = (λ h. h, λ h. h)
  is_named (arguments.Term n) = exactly n

  pub one_is_named : (operands : List Operand) → OneNamesAmong set operands ↔ OneNamesTemporary terms operands
  one_is_named operands = (λ (o, among, named). (o, among, (is_named o.value).0 named), λ (o, among, named). (o, among, (is_named o.value).1 named))

-- a node that is the width of a register that the source assigns
width_of : (node : Node) → IsTemporaryWidth node → (j c : ℕ) × (node ≡ nodes.Width (names.Source j) c)
width_of (nodes.Width (names.Source j) c) is = (j, c, refl)
width_of (nodes.Width (names.Input i) c) is = absurd is
width_of (nodes.Width (names.Target j) c) is = absurd is
width_of (nodes.Literal z) is = absurd is
width_of (nodes.Constant k) is = absurd is
width_of (nodes.Register r) is = absurd is
width_of (nodes.Choice k) is = absurd is
width_of (nodes.Unary function a) is = absurd is
width_of (nodes.Binary op a b) is = absurd is

is_width : (node : Node) (j c : ℕ) → node ≡ nodes.Width (names.Source j) c → IsTemporaryWidth node
is_width node j c is = subst IsTemporaryWidth (sym is) tt

-- the operands of a node have a lower index
operand_before : (rule : Rule) (n a : ℕ) (node : Node) → MayBeTerm rule n node → IsOperandOf a node → a < n
operand_before rule n a (nodes.Unary function b) before same = omega (arith, before, same)
operand_before rule n a (nodes.Binary op b c) before (inl same) = omega (arith, before.0, same)
operand_before rule n a (nodes.Binary op b c) before (inr same) = omega (arith, before.1, same)
operand_before rule n a (nodes.Literal z) before is = absurd is
operand_before rule n a (nodes.Constant k) before is = absurd is
operand_before rule n a (nodes.Register r) before is = absurd is
operand_before rule n a (nodes.Choice k) before is = absurd is
operand_before rule n a (nodes.Width r c) before is = absurd is

-- what is in the term of a node is the node, or is in the term of an operand
stands_below : (terms : List Term) (m n : ℕ) → StandsIn terms m n → (m ≡ n) ⊎ ((a : ℕ) × (t : Term) × (slice_get terms n ≡ Some t) × IsOperandOf a t.node × StandsIn terms m a)
stands_below terms m n itself = inl refl
stands_below terms m n (operand a t at is stands) = inr (a, t, at, is, stands)

-- the node is there
node_within : (terms : List Term) (n : ℕ) → MeasuresTemporary terms n → n < length terms
node_within terms n (j, (m, c, u, stands, there, is)) = elim (stands_below terms m n stands) [
  | inl same ↦ omega (arith, same, slice_get_within terms m u there)
  | inr (a, t, at, is, below) ↦ slice_get_within terms n t at
]

-- the term of a node has such a width where the node is one, or the term of an operand has one
measures : (terms : List Term) (n : ℕ) (t : Term) → slice_get terms n ≡ Some t → (IsTemporaryWidth t.node ⊎ ((a : ℕ) × IsOperandOf a t.node × MeasuresTemporary terms a)) → MeasuresTemporary terms n
measures terms n t at (inl width) = let (j, c, is) = width_of t.node width in (j, (n, c, t, itself, at, is))
measures terms n t at (inr (a, is, (j, (m, c, u, stands, there, width)))) = (j, (m, c, u, operand a t at is stands, there, width))

measured : (terms : List Term) (n : ℕ) (t : Term) → slice_get terms n ≡ Some t → MeasuresTemporary terms n → IsTemporaryWidth t.node ⊎ ((a : ℕ) × IsOperandOf a t.node × MeasuresTemporary terms a)
measured terms n t at (j, (m, c, u, stands, there, width)) = elim (stands_below terms m n stands) [
  | inl same ↦
      let one : u ≡ t = same_Some u t (sym there ∙ ap (λ (k : ℕ). slice_get terms k) same ∙ at) in
      inl (is_width t.node j c (ap (λ (x : Term). x.node) (sym one) ∙ width))
  | inr (a, t', at', is, below) ↦
      inr (a, subst (λ (x : Term). IsOperandOf a x.node) (same_Some t' t (sym at' ∙ at)) is, (j, (m, c, u, below, there, width)))
]

-- the loop over the nodes, whose set has those so far
module _ (rule : Rule) (checked : IsRule rule) (n : ℕ) (set : Nodes) (so_far : HasExactly set (λ m. (m < n) × MeasuresTemporary rule.terms m)) where
  -- what is decided of the next node
  pub next_measures : (t : Term) → slice_get rule.terms n ≡ Some t → (IsTemporaryWidth t.node ⊎ HasOperandOf set t.node) → MeasuresTemporary rule.terms n
  next_measures t at (inl width) = measures rule.terms n t at (inl width)
  next_measures t at (inr (a, is, has)) = measures rule.terms n t at (inr (a, is, ((so_far a).0 has).1))

  pub next_measured : (t : Term) → slice_get rule.terms n ≡ Some t → MeasuresTemporary rule.terms n → IsTemporaryWidth t.node ⊎ HasOperandOf set t.node
  next_measured t at names_width = elim (measured rule.terms n t at names_width) [
    | inl width ↦ inl width
    | inr (a, is, below) ↦ inr (a, is, (so_far a).1 (operand_before rule n a t.node (checked.terms n t at) is, below))
  ]

  pub added : (new : Nodes) → HasExactly new (λ m. Has set m ⊎ (m ≡ n)) → MeasuresTemporary rule.terms n → HasExactly new (λ m. (m < n + 1) × MeasuresTemporary rule.terms m)
  added new inserted here m = (
    λ has. elim ((inserted m).0 has) [
      | inl before ↦ let old = (so_far m).0 before in (omega (arith, old.0), old.1)
      | inr same ↦ (omega (arith, same), subst (MeasuresTemporary rule.terms) (sym same) here)
    ],
    λ (less, there). (inserted m).1 (elim (cases_eq m n) [ inl same ↦ inr same | inr other ↦ inl ((so_far m).1 (omega arith, there)) ]),
  )

  pub left_out : ¬ MeasuresTemporary rule.terms n → HasExactly set (λ m. (m < n + 1) × MeasuresTemporary rule.terms m)
  left_out none m = (
    λ has. let old = (so_far m).0 has in (omega (arith, old.0), old.1),
    λ (less, there). elim (cases_eq m n) [ inl same ↦ absurd (none (subst (MeasuresTemporary rule.terms) same there)) | inr other ↦ (so_far m).1 (omega arith, there) ],
  )

  pub all_walked : length rule.terms ≤ n → HasExactly set (MeasuresTemporary rule.terms)
  all_walked past m = (λ has. ((so_far m).0 has).1, λ there. (so_far m).1 (omega (arith, node_within rule.terms m there), there))
