-- Literals with the same code are the same.
use Rattle.aig.proofs.Common.{◌≡◌, ℕ, ◌*◌, ◌+◌, ◌/◌, Bool, true, false, cond, refl, sym, ap, ◌∙◌, arith, nat_tests, Node, One, Input, Output, Literal, place_of, code_of, node_at, literal_at}

node_at-place_of : (node : Node) → node_at (place_of node) ≡ node
node_at-place_of One = refl
node_at-place_of (Input k) = grind (arith, nat_tests)
node_at-place_of (Output k) = grind (arith, nat_tests)

half : (p : ℕ) (b : Bool) → (2 * p + cond b 1 0) / 2 ≡ p
half p true = omega arith
half p false = omega arith

odd : (p : ℕ) (b : Bool) → (literal_at (2 * p + cond b 1 0)).negated ≡ b
odd p true = grind (arith, nat_tests)
odd p false = grind (arith, nat_tests)

pub literal_at-code_of : (l : Literal) → literal_at (code_of l) ≡ l
literal_at-code_of l =
    let n : node_at (code_of l / 2) ≡ l.node = ap node_at (half (place_of l.node) l.negated) ∙ node_at-place_of l.node in
    let s = odd (place_of l.node) l.negated in
    λ j. record { node = n j; negated = s j }

-- literals with the same code are the same
pub same_code : (a b : Literal) → code_of a ≡ code_of b → a ≡ b
same_code a b e = sym (literal_at-code_of a) ∙ ap literal_at e ∙ literal_at-code_of b
