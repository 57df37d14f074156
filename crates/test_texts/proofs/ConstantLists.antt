-- Constants of one width fit a rule whose typing has that width alone.
use Rattle.test_texts.proofs.Common.{◌≡◌, ℕ, zero, suc, List, [], ◌∷◌, length, subst, All, Some, slice_get, slice_get_within, get_or_from_slice_get, Number, IsValueOf, Bits, Rule, ConstantsFit}

only-width : (N M c : ℕ) → slice_get (N ∷ []) c ≡ Some M → N ≡ M
only-width N M zero at = cc
only-width N M (suc c) at = absurd cc

is-value : (N k : ℕ) (constants : List Number) (n : Number) → All (λ word. IsValueOf N (Bits word)) constants → slice_get constants k ≡ Some n → IsValueOf N (Bits n)
is-value N k constants n fit at =
    subst (λ (m : Number). IsValueOf N (Bits m)) (get_or_from_slice_get constants k n n at) (fit k n (slice_get_within constants k n at))

pub constants_fit : (rule : Rule) (N : ℕ) (typing : List ℕ) (constants : List Number) → typing ≡ N ∷ [] → All (λ word. IsValueOf N (Bits word)) constants → length constants ≡ length rule.constants → ConstantsFit rule typing constants
constants_fit rule N typing constants one fit count = record {
  count = count;
  widths = λ k c M n named width at.
      let same : N ≡ M = only-width N M c (subst (λ (ws : List ℕ). slice_get ws c ≡ Some M) one width) in
      subst (λ (w : ℕ). IsValueOf w (Bits n)) same (is-value N k constants n fit at);
}
