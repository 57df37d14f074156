-- A word is read as a type exactly where the grammar spells the type so.
use Rattle.rule_tokens.proofs.Common.{◌≡◌, ℕ, ◌≤◌, Bool, true, eqb, leb, ◌&&◌, List, [], ◌∷◌, Some, refl, sym, ap, subst, eqb-true, leb-true, le-leb, are_digits, and_left, and_right, decimal_value, IsWrittenType, type_in}
use Rattle.rule_tokens.proofs.Steps.{guarded}

all_four : (a b c d : Bool) → a ≡ true → b ≡ true → c ≡ true → d ≡ true → (a && b && c && d) ≡ true
all_four a b c d p q r s = rw (p, q, r, s) refl

pub type_in-is : (word : List ℕ) (width : ℕ) → type_in word ≡ Some width → IsWrittenType word width
unfolding type_in
type_in-is [] width e = absurd cc
type_in-is (b ∷ digits) width e =
    let g = guarded (eqb b 105 && are_digits digits && leb 1 (decimal_value digits) && leb (decimal_value digits) 64) (decimal_value digits) width e in
    let three = and_left (eqb b 105 && are_digits digits && leb 1 (decimal_value digits)) (leb (decimal_value digits) 64) g.0 in
    let two = and_left (eqb b 105 && are_digits digits) (leb 1 (decimal_value digits)) three in (
      digits,
      ap (λ (c : ℕ). c ∷ digits) (eqb-true b 105 (and_left (eqb b 105) (are_digits digits) two)),
      and_right (eqb b 105) (are_digits digits) two,
      g.1,
      subst (λ (w : ℕ). 1 ≤ w) g.1 (leb-true 1 (decimal_value digits) (and_right (eqb b 105 && are_digits digits) (leb 1 (decimal_value digits)) three)),
      subst (λ (w : ℕ). w ≤ 64) g.1 (leb-true (decimal_value digits) 64 (and_right (eqb b 105 && are_digits digits && leb 1 (decimal_value digits)) (leb (decimal_value digits) 64) g.0)),
    )

pub type_in-of : (word : List ℕ) (width : ℕ) → IsWrittenType word width → type_in word ≡ Some width
unfolding type_in
type_in-of word width (digits, is, all, value, low, high) =
    let one : leb 1 (decimal_value digits) ≡ true = le-leb 1 (decimal_value digits) (subst (λ (w : ℕ). 1 ≤ w) (sym value) low) in
    let most : leb (decimal_value digits) 64 ≡ true = le-leb (decimal_value digits) 64 (subst (λ (w : ℕ). w ≤ 64) (sym value) high) in
    rw (is, all_four true (are_digits digits) (leb 1 (decimal_value digits)) (leb (decimal_value digits) 64) refl all one most) (ap Some value)
