-- Gates whose operands are put in the order of their codes.
use Rattle.aig.proofs.Common.{◌≡◌, ℕ, Bool, true, false, ◌&&◌, nat_lt, if◌then◌else◌, List, refl, xor, And, Xor, Literal, code_of, ordered_and, ordered_xor, OperandsAmong, literal_value, gate_value}
use Rattle.aig.proofs.Truth.{and_turned, xor_turned}

either_way : {X : Type 0} (P : X → Type 0) (t : Bool) (x y : X) → (t ≡ true → P x) → (t ≡ false → P y) → P (if t then x else y)
either_way P true x y f g = f refl
either_way P false x y f g = g refl

module _ (a b : Literal) where
  pub ordered_and-operands : (n k : ℕ) → OperandsAmong n k (And a b) → OperandsAmong n k (ordered_and a b)
  ordered_and-operands n k own =
      either_way (OperandsAmong n k) (nat_lt (code_of a) (code_of b)) (And a b) (And b a) (λ t. own) (λ t. (own.1, own.0))

  pub ordered_and-value : (inputs vs : List Bool) → gate_value inputs vs (ordered_and a b) ≡ (literal_value inputs vs a && literal_value inputs vs b)
  ordered_and-value inputs vs =
      let p = literal_value inputs vs a in
      let q = literal_value inputs vs b in
      either_way (λ g. gate_value inputs vs g ≡ (p && q)) (nat_lt (code_of a) (code_of b)) (And a b) (And b a)
      (λ t. refl) (λ t. and_turned q p)

  pub ordered_xor-value : (inputs vs : List Bool) → gate_value inputs vs (ordered_xor a b) ≡ xor (literal_value inputs vs a) (literal_value inputs vs b)
  ordered_xor-value inputs vs =
      let p = literal_value inputs vs a in
      let q = literal_value inputs vs b in
      either_way (λ g. gate_value inputs vs g ≡ xor p q) (nat_lt (code_of a) (code_of b)) (Xor a b) (Xor b a)
      (λ t. refl) (λ t. xor_turned q p)
