-- A word that is masked by a literal, and a row of a product, which adds one.
use Rattle.circ_muldiv.proofs.Common.{◌≡◌, ℕ, ◌+◌, ◌-◌, ◌*◌, ◌%◌, ◌^◌, ◌<◌, ◌≤◌, Bool, true, false, ◌&&◌, List, [], ◌∷◌, ◌++◌, map, length, take, drop, get_or, sym, ap, ◌∙◌, arith, length-drop, map-append, length-map, length-take-le, take-append-drop, pow-add, bit, number, number-append, number-push, number-take_more, number-cut}

mask_step : (m n p : ℕ) (x d : Bool) → m ≡ bit d * n → m + p * bit (x && d) ≡ bit d * (n + p * bit x)
mask_step m n p true true e = omega arith
mask_step m n p true false e = omega arith
mask_step m n p false true e = omega arith
mask_step m n p false false e = omega arith

-- one more bit of a word is masked
pub mask_more : {L : Type 0} (old now new : L → Bool) (word masked : List L) (i : ℕ) (x digit both : L) → i < length word → x ≡ get_or word i x → length masked ≡ i → map new masked ≡ map now masked → now x ≡ old x → now digit ≡ old digit → new both ≡ (now x && now digit) → number (map now masked) ≡ bit (old digit) * number (map old (take i word)) → number (map new (masked ++ both ∷ [])) ≡ bit (old digit) * number (map old (take (i + 1) word))
mask_more old now new word masked i x digit both inside at_x width masked_kept x_kept digit_kept both_is before =
    let places : length (map now masked) ≡ i = length-map masked now ∙ width in
    rw (map-append new masked (both ∷ []), masked_kept, number-push (map now masked) (new both), places, both_is, x_kept, digit_kept, number-take_more old word i x inside at_x)
    (mask_step (number (map now masked)) (number (map old (take i word))) (2 ^ i) (old x) (old digit) before)

-- the sum of a word and a masked one
pub sum_where : {L : Type 0} (old mid new : L → Bool) (word added shown bits : List L) (digit carry first : L) → map mid word ≡ map old word → number (map mid shown) ≡ bit (old digit) * number (map old added) → mid first ≡ false → number (map new bits) + 2 ^ length word * bit (new carry) ≡ number (map mid word) + number (map mid shown) + bit (mid first) → number (map new bits) + 2 ^ length word * bit (new carry) ≡ number (map old word) + bit (old digit) * number (map old added)
sum_where old mid new word added shown bits digit carry first word_kept shown_is first_is total =
    total ∙ rw (word_kept, shown_is, first_is) (omega arith)

row_parts : (low high upper q r k d m : ℕ) → upper + r * k ≡ high + d * m → (low + q * upper) + (q * r) * k ≡ (low + q * high) + q * (d * m)
row_parts low high upper q r k d m total = grind (arith, ap (λ t. q * t) total)

-- a row: the lowest bits of a word, masked, are added to the upper part of another word
pub row_sum : {L : Type 0} (old new : L → Bool) (word a upper : List L) (digit carry : L) (place : ℕ) → place ≤ length a → length word ≡ length a → map new (take place word) ≡ map old (take place word) → number (map new upper) + 2 ^ length (drop place word) * bit (new carry) ≡ number (map old (drop place word)) + bit (old digit) * number (map old (take (length a - place) a)) → number (map new (take place word ++ upper)) + 2 ^ length a * bit (new carry) ≡ number (map old word) + 2 ^ place * (bit (old digit) * (number (map old a) % 2 ^ (length a - place)))
row_sum old new word a upper digit carry place inside same_width lower_kept total =
    let places : length (map old (take place word)) ≡ place = length-map (take place word) old ∙ length-take-le place word (omega arith) in
    let rest : length (drop place word) ≡ length a - place = length-drop place word ∙ ap (λ n. n - place) same_width in
    let whole : place + (length a - place) ≡ length a = omega arith in
    let range : 2 ^ length a ≡ 2 ^ place * 2 ^ (length a - place) = ap (λ n. 2 ^ n) (sym whole) ∙ pow-add 2 place (length a - place) in
    let parts : number (map old word) ≡ number (map old (take place word)) + 2 ^ place * number (map old (drop place word)) =
    ap (λ w. number (map old w)) (sym (take-append-drop place word)) ∙ ap number (map-append old (take place word) (drop place word)) ∙ number-append (map old (take place word)) (map old (drop place word)) ∙ ap (λ n. number (map old (take place word)) + 2 ^ n * number (map old (drop place word))) places in
    let sum : number (map new upper) + 2 ^ (length a - place) * bit (new carry) ≡ number (map old (drop place word)) + bit (old digit) * (number (map old a) % 2 ^ (length a - place)) =
    rw (rest, number-cut old a (length a - place) (omega arith)) at total in
    rw (map-append new (take place word) upper, lower_kept, number-append (map old (take place word)) (map new upper), places, range, parts)
    (row_parts (number (map old (take place word))) (number (map old (drop place word))) (number (map new upper)) (2 ^ place) (2 ^ (length a - place)) (bit (new carry)) (bit (old digit)) (number (map old a) % 2 ^ (length a - place)) sum)
