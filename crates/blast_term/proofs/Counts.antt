-- Bounds on how many gates the nodes of terms have.
use Rattle.blast_term.proofs.Common.{ℕ, ◌+◌, ◌-◌, ◌*◌, ◌≤◌, List, [], ◌∷◌, length, map, arith, slice_index, sum_by, All, select_gates, mul-le-mul_left, mul-le-mul, All-tail, sum_by-cons, Add, Sub, Mul, UDiv, SDiv, URem, SRem, Shl, LShr, AShr, And, Or, Xor, UMin, UMax, SMin, SMax, Term, Node, Negate, Not, Log2, Abs, shift-few, node_gates, term_gates, terms_gates, numbers_gates, node_bound, term_bound}
use Rattle.rule_core.specs.declared.rule.Node.TheVariants as nodes

-- the bound of a node leaves gates for its number, 0 where it has no value, and for the test whether it has one
node-few : (N : ℕ) (node : Node) → 1 ≤ N → N ≤ 64 → node_gates N node + N + 1 ≤ node_bound node N
node-few N (nodes.Literal z) some low = omega arith
node-few N (nodes.Constant k) some low = omega arith
node-few N (nodes.Register r) some low = omega arith
node-few N (nodes.Choice k) some low = omega arith
node-few N (nodes.Width r c) some low = omega arith
node-few N (nodes.Unary Negate a) some low = omega arith
node-few N (nodes.Unary Not a) some low = omega arith
node-few N (nodes.Unary Log2 a) some low = omega arith
node-few N (nodes.Unary Abs a) some low = omega arith
node-few N (nodes.Binary Add a b) some low = omega arith
node-few N (nodes.Binary Sub a b) some low = omega arith
node-few N (nodes.Binary Mul a b) some low = let fewer : N - 1 ≤ N = omega arith in omega (arith, mul-le-mul_left (3 * N) fewer)
node-few N (nodes.Binary UDiv a b) some low = omega arith
node-few N (nodes.Binary SDiv a b) some low = omega arith
node-few N (nodes.Binary URem a b) some low = omega arith
node-few N (nodes.Binary SRem a b) some low = omega arith
node-few N (nodes.Binary Shl a b) some low = omega (arith, shift-few N low)
node-few N (nodes.Binary LShr a b) some low = omega (arith, shift-few N low)
node-few N (nodes.Binary AShr a b) some low = omega (arith, shift-few N low)
node-few N (nodes.Binary And a b) some low = omega arith
node-few N (nodes.Binary Or a b) some low = omega arith
node-few N (nodes.Binary Xor a b) some low = omega arith
node-few N (nodes.Binary UMin a b) some low = omega arith
node-few N (nodes.Binary UMax a b) some low = omega arith
node-few N (nodes.Binary SMin a b) some low = omega arith
node-few N (nodes.Binary SMax a b) some low = omega arith

pub node-low : (N : ℕ) (node : Node) → N ≤ 64 → node_bound node N ≤ 266240
node-low N node low =
    let square : N * N ≤ 64 * 64 = mul-le-mul low low in
    elim node as (λ n. node_bound n N ≤ 266240) [
      | nodes.Binary op a b ↦ elim op as (λ o. node_bound (nodes.Binary o a b) N ≤ 266240) [
        | Mul ↦ omega arith
        | UDiv ↦ omega arith
        | SDiv ↦ omega arith
        | URem ↦ omega arith
        | SRem ↦ omega arith
        | _ ↦ omega arith
      ]
      | _ ↦ omega arith
    ]

-- the bound of terms holds for the nodes, their numbers and the tests whether each has a value
pub terms-few : (typing : List ℕ) (terms : List Term) → All (λ t. (1 ≤ slice_index typing t.class) × (slice_index typing t.class ≤ 64)) terms
    → terms_gates typing terms + numbers_gates (map (λ t. slice_index typing t.class) terms) + length (map (λ (t : Term). slice_index typing t.class) terms) ≤ sum_by (term_bound typing) terms
terms-few typing [] all = omega arith
terms-few typing (t ∷ terms) all =
    let w : Term → ℕ = λ t. slice_index typing t.class in
    let here = all 0 t (omega arith) in
    omega (
      arith,
      node-few (w t) t.node here.0 here.1,
      sum_by-cons (term_gates typing) t terms,
      sum_by-cons select_gates (w t) (map w terms),
      sum_by-cons (term_bound typing) t terms,
      terms-few typing terms (All-tail (λ t. (1 ≤ slice_index typing t.class) × (slice_index typing t.class ≤ 64)) t terms all),
    )
