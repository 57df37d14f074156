-- Lines that a loop prints: at each moment what is printed so far, followed by the lines that are left, is the whole
-- text.
use Rattle.verdict_core.proofs.Common.{◌≡◌, ℕ, ◌+◌, ◌<◌, ◌≤◌, List, [], ◌∷◌, ◌++◌, length, take, get_or, map, decimal, Option, None, Some, flat_map, refl, ap, sym, ◌∙◌, append_assoc, inl, inr, ◌⊎◌, arith, zip, join_with_byte, append-nil, take_more, map-append, length-map, length-take, Zip-more, either_empty_from_Zip, zips, fronts, zip_first, zip_second, Zip, iter_rest, Iter, Bor}

-- the loop printed one more piece
pub piece_more : (piece rest out after total : List ℕ) → out ++ (piece ++ rest) ≡ total → after ≡ out ++ piece → after ++ rest ≡ total
piece_more piece rest out after total so_far printed = rw printed (append_assoc out piece rest ∙ so_far)

-- the loop printed the line of one more pair
pub pair_more : {A B : Type 0} (line : A × B → List ℕ) (s t : Zip (Iter A) (Iter B)) (r : Option (Bor A × Bor B)) (p : Bor A × Bor B) (out after total : List ℕ) → r ≡ Some p → zips fronts fronts s r t → out ++ flat_map line (zip (iter_rest (zip_first s)) (iter_rest (zip_second s))) ≡ total → after ≡ out ++ line (p.0.now, p.1.now) → after ++ flat_map line (zip (iter_rest (zip_first t)) (iter_rest (zip_second t))) ≡ total
pair_more line s t r p out after total is steps so_far printed =
    let more = Zip-more s t r p is steps in
    piece_more (line (p.0.now, p.1.now)) _ out after total (rw (more.0, more.1) at so_far) printed

no_pairs : {A B : Type 0} (line : A × B → List ℕ) (xs : List A) (ys : List B) → (xs ≡ []) ⊎ (ys ≡ []) → flat_map line (zip xs ys) ≡ []
no_pairs line [] ys e = refl
no_pairs line (x ∷ xs) [] e = refl
no_pairs line (x ∷ xs) (y ∷ ys) (inl e) = cc
no_pairs line (x ∷ xs) (y ∷ ys) (inr e) = cc

-- at the end of the loop the lines of all pairs are printed
pub pairs_end : {A B : Type 0} (line : A × B → List ℕ) (s t : Zip (Iter A) (Iter B)) (r : Option (Bor A × Bor B)) (out total : List ℕ) → r ≡ None → zips fronts fronts s r t → out ++ flat_map line (zip (iter_rest (zip_first s)) (iter_rest (zip_second s))) ≡ total → out ≡ total
pairs_end line s t r out total is steps so_far =
    let none = no_pairs line (iter_rest (zip_first s)) (iter_rest (zip_second s)) (either_empty_from_Zip s t r is steps) in
    sym (append-nil out) ∙ ap (λ (l : List ℕ). out ++ l) (sym none) ∙ so_far

-- one more piece is joined to those before by the separator
pub joined_more : (c : ℕ) (xs : List (List ℕ)) (x : List ℕ) → 0 < length xs → join_with_byte c (xs ++ x ∷ []) ≡ join_with_byte c xs ++ c ∷ x
joined_more c [] x some = absurd (omega arith)
joined_more c (y ∷ []) x some = refl
joined_more c (y ∷ z ∷ xs) x some =
    let more : join_with_byte c ((z ∷ xs) ++ x ∷ []) ≡ join_with_byte c (z ∷ xs) ++ c ∷ x = joined_more c (z ∷ xs) x (omega arith) in
    ap (λ (l : List ℕ). y ++ c ∷ l) more ∙ sym (append_assoc y (c ∷ join_with_byte c (z ∷ xs)) (c ∷ x))

-- the texts of the widths before place i + 1
more_widths : (ws : List ℕ) (i w : ℕ) → i < length ws → w ≡ get_or ws i w → map decimal (take (i + 1) ws) ≡ map decimal (take i ws) ++ decimal w ∷ []
more_widths ws i w within is =
    ap (λ (l : List ℕ). map decimal l) (take_more ws i w within ∙ ap (λ (x : ℕ). take i ws ++ x ∷ []) (sym is)) ∙ map-append decimal (take i ws) (w ∷ [])

-- the loop printed the first width
pub first_width : (ws : List ℕ) (i w : ℕ) (old before after : List ℕ) → i < length ws → w ≡ get_or ws i w → i ≤ 0 → before ≡ old ++ join_with_byte 32 (map decimal (take i ws)) → after ≡ before ++ decimal w → after ≡ old ++ join_with_byte 32 (map decimal (take (i + 1) ws))
first_width ws i w old before after within is first so_far printed =
    let none : i ≡ 0 = omega arith in
    rw (printed, so_far, more_widths ws i w within is, none) (ap (λ (l : List ℕ). l ++ decimal w) (append-nil old))

-- the loop printed one more width, behind a space
pub next_width : (ws : List ℕ) (i w : ℕ) (old before between after : List ℕ) → i < length ws → w ≡ get_or ws i w → 0 < i → before ≡ old ++ join_with_byte 32 (map decimal (take i ws)) → between ≡ before ++ 32 ∷ [] → after ≡ between ++ decimal w → after ≡ old ++ join_with_byte 32 (map decimal (take (i + 1) ws))
next_width ws i w old before between after within is later so_far spaced printed =
    let some : 0 < length (map decimal (take i ws)) = omega (arith, length-map (take i ws) decimal, length-take i ws) in
    rw (printed, spaced, so_far, more_widths ws i w within is, joined_more 32 (map decimal (take i ws)) (decimal w) some)
    (append_assoc (old ++ join_with_byte 32 (map decimal (take i ws))) (32 ∷ []) (decimal w) ∙ append_assoc old (join_with_byte 32 (map decimal (take i ws))) (32 ∷ decimal w))
