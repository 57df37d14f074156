-- The weight of a trail, a number that falls with each step of a depth-first search: the trail as a number to the base
-- 3, in which an entry with a reason is the digit 0, a decision 1 and a place without an entry 2.
use Rattle.depth_first.proofs.Common.{◌≡◌, ℕ, zero, suc, ◌+◌, ◌<◌, ◌≤◌, true, List, [], ◌∷◌, ◌++◌, Some, length, take, refl, ap, ◌∙◌, arith, slice_get, Entry, Cause, InputDecision, NonInputDecision, Reason, is_decision}

abbrev pub power : ℕ → ℕ
power zero = 1
power (suc n) = power n + power n + power n

abbrev pub digit : Cause → ℕ → ℕ
digit InputDecision unit = unit
digit NonInputDecision unit = unit
digit (Reason number) unit = 0

abbrev pub weight : ℕ → List Entry → ℕ
weight zero entries = 0
weight (suc n) [] = power n + power n + weight n []
weight (suc n) (e ∷ es) = digit e.cause (power n) + weight n es

digit_le : (cause : Cause) (unit : ℕ) → digit cause unit ≤ unit
digit_le InputDecision unit = omega arith
digit_le NonInputDecision unit = omega arith
digit_le (Reason number) unit = omega arith

digit_decision : (cause : Cause) (unit : ℕ) → is_decision cause ≡ true → digit cause unit ≡ unit
digit_decision InputDecision unit is = refl
digit_decision NonInputDecision unit is = refl
digit_decision (Reason number) unit is = cc

weight_lt : (n : ℕ) (entries : List Entry) → weight n entries < power n
weight_lt zero entries = omega arith
weight_lt (suc n) [] = omega (arith, weight_lt n [])
weight_lt (suc n) (e ∷ es) = omega (arith, weight_lt n es, digit_le e.cause (power n))

-- no trail weighs more than the empty one
weight_le : (n : ℕ) (entries : List Entry) → weight n entries ≤ weight n []
weight_le zero entries = omega arith
weight_le (suc n) [] = omega arith
weight_le (suc n) (e ∷ es) = omega (arith, weight_le n es, digit_le e.cause (power n))

pub weight_grow : (n : ℕ) (entries more : List Entry) → weight n (entries ++ more) ≤ weight n entries
weight_grow n [] more = weight_le n more
weight_grow zero (e ∷ es) more = omega arith
weight_grow (suc n) (e ∷ es) more = omega (arith, weight_grow n es more)

power_pos : (n : ℕ) → 0 < power n
power_pos zero = omega arith
power_pos (suc n) = omega (arith, power_pos n)

-- a trail with one more entry weighs less
pub weight_push : (n : ℕ) (entries : List Entry) (e : Entry) → length entries < n → weight n (entries ++ e ∷ []) < weight n entries
weight_push zero entries e within = absurd (omega arith)
weight_push (suc n) [] e within = omega (arith, power_pos n, digit_le e.cause (power n))
weight_push (suc n) (f ∷ fs) e within = omega (arith, weight_push n fs e (omega arith))

-- a trail with a decision flipped weighs less
pub weight_flip : (n : ℕ) (entries : List Entry) (place : ℕ) (e f : Entry) (number : ℕ) → place < n → slice_get entries place ≡ Some e → is_decision e.cause ≡ true → f.cause ≡ Reason number → weight n (take place entries ++ f ∷ []) < weight n entries
weight_flip zero entries place e f number within at is cause = absurd (omega arith)
weight_flip (suc n) [] place e f number within at is cause = cc
weight_flip (suc n) (g ∷ gs) zero e f number within at is cause =
    let same : g ≡ e = cc in
    let one : digit g.cause (power n) ≡ power n = digit_decision g.cause (power n) (ap (λ (h : Entry). is_decision h.cause) same ∙ is) in
    let none : digit f.cause (power n) ≡ 0 = ap (λ c. digit c (power n)) cause in
    omega (arith, one, none, weight_lt n [])
weight_flip (suc n) (g ∷ gs) (suc place) e f number within at is cause =
    omega (arith, weight_flip n gs place e f number (omega arith) at is cause)
