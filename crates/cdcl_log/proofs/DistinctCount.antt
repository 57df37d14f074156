-- How many different inputs a set has, counted from the end of their list.
use Rattle.cdcl_log.proofs.Common.{◌≡◌, ℕ, suc, ◌+◌, ◌-◌, ◌<◌, ◌≤◌, true, cond, List, [], ◌∷◌, length, drop, get_or, ap, ◌∙◌, arith, drop-cons, zero-add, distinct_count, either, is_among}

-- the count goes one place further from the end of the inputs
pub next_input : (inputs : List ℕ) (place d : ℕ) → 0 < place → place ≤ length inputs → drop (place - 1) inputs ≡ get_or inputs (place - 1) d ∷ drop place inputs
next_input inputs place d pos within =
    let e : suc (place - 1) ≡ place = omega arith in
    drop-cons inputs (place - 1) d (omega arith) ∙ ap (λ k. get_or inputs (place - 1) d ∷ drop k inputs) e

pub distinct_count-among : (n : ℕ) (ns : List ℕ) → is_among ns n ≡ true → distinct_count (n ∷ ns) ≡ distinct_count ns
distinct_count-among n ns among = ap (λ b. cond b 0 1 + distinct_count ns) among ∙ zero-add (distinct_count ns)

pub distinct_count_le : (ns : List ℕ) → distinct_count ns ≤ length ns
distinct_count_le [] = omega arith
distinct_count_le (n ∷ ns) = omega (arith, distinct_count_le ns, either (is_among ns n) 0 1 1 (omega arith) (omega arith))
