-- The table of the entries' places, as it was noted last.
use Rattle.first_uip.proofs.Common.{◌≡◌, ℕ, zero, suc, ◌≤◌, List, [], ◌∷◌, ◌++◌, Some, length, take, sym, ap, ◌∙◌, subst, arith, slice_get, length-take-le, Lit, Entry, Grows, slice_get_below, IsPlaced, IsNoted}
use Rattle.first_uip.proofs.Marked.{IsPlaced-grown, IsPlaced-same}

length_left : {X : Type 0} (xs ys : List X) → length xs ≤ length (xs ++ ys)
length_left [] ys = omega arith
length_left (x ∷ xs) ys = let h : length xs ≤ length (xs ++ ys) = length_left xs ys in omega arith

take_shorter : {X : Type 0} (n : ℕ) (xs : List X) → length (take n xs) ≤ length xs
take_shorter zero xs = omega arith
take_shorter (suc n) [] = omega arith
take_shorter (suc n) (x ∷ xs) = let h : length (take n xs) ≤ length xs = take_shorter n xs in omega arith

pub IsNoted-append : (places : List ℕ) (entries more : List Entry) (n : ℕ) → IsNoted places entries n → IsNoted places (entries ++ more) n
IsNoted-append places entries more n noted = (omega (arith, noted.0, length_left entries more), IsPlaced-grown places entries more n noted.0 noted.1)

pub IsNoted-grows : (clauses : List (List Lit)) (places : List ℕ) (old new : List Entry) (n : ℕ) → Grows clauses old new → IsNoted places old n → IsNoted places new n
IsNoted-grows clauses places old new n grows noted = subst (λ es. IsNoted places es n) (sym grows.is) (IsNoted-append places old grows.more n noted)

-- after entries are popped, the places of those that are left are noted
pub IsNoted-cut : (places : List ℕ) (old new : List Entry) (n : ℕ) (e : Entry) → slice_get old n ≡ Some e → take n new ≡ take n old → IsPlaced places old (length old) → IsNoted places new n
IsNoted-cut places old new n e at same placed =
    let within = slice_get_below old n e at in
    let whole : length (take n new) ≡ n = ap length same ∙ length-take-le n old (omega (arith, within)) in
    (omega (arith, whole, take_shorter n new), IsPlaced-same places old new (length old) n (omega (arith, within)) same placed)
