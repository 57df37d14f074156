-- Numbers as decimal digits spell them.
use Rattle.ir_tokens.proofs.Common.{◌≡◌, ℕ, zero, suc, ◌+◌, ◌-◌, ◌*◌, ◌<◌, ◌≤◌, List, [], ◌∷◌, length, get_or, take, fold, ap, arith, fold_more, take_all, decimal_value}

abbrev step : ℕ → ℕ → ℕ
step n digit = 10 * n + (digit - 48)

at_least : (n : ℕ) (digits : List ℕ) → n ≤ fold step n digits
at_least n [] = omega arith
at_least n (d ∷ digits) = omega (arith, at_least (10 * n + (d - 48)) digits)

front_at_least : (n i : ℕ) (digits : List ℕ) → fold step n (take i digits) ≤ fold step n digits
front_at_least n zero digits = at_least n digits
front_at_least n (suc i) [] = omega arith
front_at_least n (suc i) (d ∷ digits) = front_at_least (10 * n + (d - 48)) i digits

-- the number that the first digits spell is at most the number that all spell
pub value_past : (digits : List ℕ) (i : ℕ) → i < length digits → 10 * decimal_value (take i digits) + (get_or digits i 0 - 48) ≤ decimal_value digits
value_past digits i lt = omega (arith, fold_more step 0 digits i 0 lt, front_at_least 0 (i + 1) digits)

pub whole_value : (digits : List ℕ) (i : ℕ) → length digits ≤ i → decimal_value (take i digits) ≡ decimal_value digits
whole_value digits i le = ap decimal_value (take_all i digits le)
