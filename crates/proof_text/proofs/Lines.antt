-- What loops write: one piece more of each item.
use Rattle.proof_text.proofs.Common.{◌≡◌, ℕ, ◌+◌, ◌<◌, ◌≤◌, List, [], ◌∷◌, ◌++◌, length, take, get_or, map, flat_map, refl, ap, sym, ◌∙◌, append_assoc, arith, join_with_byte, append-nil, take_more, map-append, length-map, length-take, flat_map-append, numeral}

pub flat_push : {X : Type 0} (f : X → List ℕ) (xs : List X) (x : X) → flat_map f (xs ++ x ∷ []) ≡ flat_map f xs ++ f x
flat_push f xs x = flat_map-append f xs (x ∷ []) ∙ ap (λ (l : List ℕ). flat_map f xs ++ l) (append-nil (f x))

-- one more piece is joined
pub joined_more : (c : ℕ) (xs : List (List ℕ)) (x : List ℕ) → 0 < length xs → join_with_byte c (xs ++ x ∷ []) ≡ join_with_byte c xs ++ c ∷ x
joined_more c [] x some = absurd (omega arith)
joined_more c (y ∷ []) x some = refl
joined_more c (y ∷ z ∷ xs) x some =
    let more : join_with_byte c ((z ∷ xs) ++ x ∷ []) ≡ join_with_byte c (z ∷ xs) ++ c ∷ x = joined_more c (z ∷ xs) x (omega arith) in
    ap (λ (l : List ℕ). y ++ c ∷ l) more ∙ sym (append_assoc y (c ∷ join_with_byte c (z ∷ xs)) (c ∷ x))

more_widths : (ws : List ℕ) (i w d : ℕ) → i < length ws → w ≡ get_or ws i d → map numeral (take (i + 1) ws) ≡ map numeral (take i ws) ++ numeral w ∷ []
more_widths ws i w d within is =
    ap (λ (l : List ℕ). map numeral l) (take_more ws i d within ∙ ap (λ (x : ℕ). take i ws ++ x ∷ []) (sym is)) ∙ map-append numeral (take i ws) (w ∷ [])

-- the first width is printed
pub first_width : (ws : List ℕ) (i w d : ℕ) (old before after : List ℕ) → i < length ws → w ≡ get_or ws i d → i ≤ 0 → before ≡ old ++ join_with_byte 32 (map numeral (take i ws)) → after ≡ before ++ numeral w → after ≡ old ++ join_with_byte 32 (map numeral (take (i + 1) ws))
first_width ws i w d old before after within is first so_far printed =
    let none : i ≡ 0 = omega arith in
    rw (printed, so_far, more_widths ws i w d within is, none) (ap (λ (l : List ℕ). l ++ numeral w) (append-nil old))

-- one more is printed, behind a space
pub next_width : (ws : List ℕ) (i w d : ℕ) (old before between after : List ℕ) → i < length ws → w ≡ get_or ws i d → 0 < i → before ≡ old ++ join_with_byte 32 (map numeral (take i ws)) → between ≡ before ++ 32 ∷ [] → after ≡ between ++ numeral w → after ≡ old ++ join_with_byte 32 (map numeral (take (i + 1) ws))
next_width ws i w d old before between after within is later so_far spaced printed =
    let some : 0 < length (map numeral (take i ws)) = omega (arith, length-map (take i ws) numeral, length-take i ws) in
    rw (printed, spaced, so_far, more_widths ws i w d within is, joined_more 32 (map numeral (take i ws)) (numeral w) some)
    (append_assoc (old ++ join_with_byte 32 (map numeral (take i ws))) (32 ∷ []) (numeral w) ∙ append_assoc old (join_with_byte 32 (map numeral (take i ws))) (32 ∷ numeral w))
