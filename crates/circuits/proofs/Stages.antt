-- How many stages a shift has.
use Rattle.circuits.proofs.Common.{◌≡◌, ℕ, zero, suc, ◌+◌, ◌-◌, ◌*◌, ◌%◌, ◌^◌, min, List, length, take, drop, length-drop, ◌<◌, ◌≤◌, true, false, nat_lt, if◌then◌else◌, ap, ◌∙◌, ⊎_elim, arith, add-one, cases_lt, pow-succ', mul-le-mul_left, mod-eq_of_lt, length-take-le, pow_mono, shift_gates, stages}

pub doubled : (k : ℕ) → 2 ^ (k + 1) ≡ 2 * 2 ^ k
doubled k = ap (λ n. 2 ^ n) (add-one k) ∙ pow-succ' 2 k

-- a power of two isn't 0
one-le-pow : (k : ℕ) → 1 ≤ 2 ^ k
one-le-pow k = let none : 0 ≤ k = omega arith in let least : 2 ^ 0 ≤ 2 ^ k = pow_mono none in omega arith

enough_step : (n k : ℕ) → n ≤ 2 ^ k → suc n ≤ 2 ^ (if nat_lt n (2 ^ k) then k else k + 1)
enough_step n k before =
    ⊎_elim
    (λ (h : n < 2 ^ k). let t : nat_lt n (2 ^ k) ≡ true = grind arith in rw t (omega arith))
    (λ (h : 2 ^ k ≤ n). let t : nat_lt n (2 ^ k) ≡ false = grind arith in let some : 1 ≤ 2 ^ k = one-le-pow k in rw (t, doubled k) (omega arith))
    (cases_lt n (2 ^ k))

pub stages-enough : (n : ℕ) → n ≤ 2 ^ stages n
unfolding stages
stages-enough zero = omega arith
stages-enough (suc n) = enough_step n (stages n) (stages-enough n)

below_step : (n k j : ℕ) → (j < k → 2 ^ j < n) → j < (if nat_lt n (2 ^ k) then k else k + 1) → 2 ^ j < suc n
below_step n k j before =
    ⊎_elim
    (λ (h : n < 2 ^ k). let t : nat_lt n (2 ^ k) ≡ true = grind arith in rw t (λ (below : j < k). let fewer = before below in omega arith))
    (λ (h : 2 ^ k ≤ n). let t : nat_lt n (2 ^ k) ≡ false = grind arith in rw t (λ (below : j < k + 1). ⊎_elim (λ (less : j < k). let fewer = before less in omega arith) (λ (least : k ≤ j). let same : j ≡ k = omega arith in rw same (omega arith)) (cases_lt j k)))
    (cases_lt n (2 ^ k))

-- each stage but the last moves by less than the width
pub stages-below : (n j : ℕ) → j < stages n → 2 ^ j < n
unfolding stages
stages-below zero j h = omega arith
stages-below (suc n) j h = below_step n (stages n) j (stages-below n j) h

pub stages-least : (n k : ℕ) → n ≤ 2 ^ k → stages n ≤ k
stages-least n k enough =
    ⊎_elim
    (λ (above : k < stages n). let fewer = stages-below n k above in absurd (omega arith))
    (λ (within : stages n ≤ k). within)
    (cases_lt k (stages n))

pub stages-is : (n k : ℕ) → 2 ^ k < n → n ≤ 2 * 2 ^ k → k + 1 ≡ stages n
stages-is n k above below =
    ⊎_elim
    (λ (h : stages n < k + 1). let fewer : stages n ≤ k = omega arith in let least : 2 ^ stages n ≤ 2 ^ k = pow_mono fewer in omega (arith, stages-enough n))
    (λ (h : k + 1 ≤ stages n).
    ⊎_elim
    (λ (more : k + 1 < stages n). let high = stages-below n (k + 1) more in let d = doubled k in omega arith)
    (λ (same : stages n ≤ k + 1). omega arith)
    (cases_lt (k + 1) (stages n)))
    (cases_lt (stages n) (k + 1))

pub stages-none : (n : ℕ) → n ≤ 1 → 0 ≡ stages n
stages-none n few =
    ⊎_elim
    (λ (h : 0 < stages n). let some = stages-below n 0 h in omega arith)
    (λ (h : stages n ≤ 0). omega arith)
    (cases_lt 0 (stages n))

-- the stages of a word that a machine can hold
module _ (i k n : ℕ) (in_amount : i < k) (few : k ≤ stages n) (fits : n < 2 ^ 64) where
  pub stage_inside : 2 ^ i < n
  stage_inside = stages-below n i (omega arith)

  pub stage_place : i < 64
  stage_place =
      ⊎_elim
      (λ (h : i < 64). h)
      (λ (h : 64 ≤ i). let least : 2 ^ 64 ≤ 2 ^ i = pow_mono h in absurd (omega (arith, stage_inside)))
      (cases_lt i 64)

  pub stage_distance : (1 * 2 ^ i) % 2 ^ 64 ≡ 2 ^ i
  stage_distance =
      let whole : 1 * 2 ^ i ≡ 2 ^ i = omega arith in
      let below : 2 ^ i < 2 ^ 64 = omega (arith, stage_inside) in
      ap (λ d. d % 2 ^ 64) whole ∙ mod-eq_of_lt below

-- where the amount has higher bits than the stages go, the stages reach the width
pub stage_reach : {L : Type 0} (n low : ℕ) (amount : List L) → low ≡ min (stages n) (length amount) → 0 < length (drop low amount) → n ≤ 2 ^ length (take low amount)
stage_reach n low amount low_is far =
    let whole : length (take low amount) ≡ stages n = omega (arith, length-take-le low amount (omega arith), length-drop low amount) in
    rw whole (stages-enough n)

-- the gates of one stage more
pub stage_gates : (n i k : ℕ) → i < k → n * i + n ≤ n * k
stage_gates n i k h = let more : i + 1 ≤ k = omega arith in omega (arith, mul-le-mul_left n more)

-- the gates of a shift: of its stages, and of what the amount's higher bits add
module _ {L : Type 0} (n low : ℕ) (amount : List L) (low_is : low ≡ min (stages n) (length amount)) where
  pub near_width : length (take low amount) ≡ low
  near_width = length-take-le low amount (omega arith)

  pub far_width : length (take (length amount - low) (drop low amount)) ≡ length amount - low
  far_width = length-take-le (length amount - low) (drop low amount) (omega (arith, length-drop low amount))

  pub near_few : length (take low amount) ≤ stages n
  near_few = rw near_width (omega arith)

  pub near_gates : n * length (take low amount) ≤ shift_gates n (length amount)
  near_gates = rw (near_width, low_is) (omega arith)

  pub whole_gates : n * length (take low amount) + (length (take (length amount - low) (drop low amount)) + n) ≤ shift_gates n (length amount)
  whole_gates = rw (near_width, far_width, low_is) (omega arith)
