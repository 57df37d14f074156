-- The binary digits of a word's number are the word's bits, so bits may be counted in either.
use Rattle.blast_value.proofs.Common.{◌≡◌, ℕ, ◌+◌, ◌*◌, ◌/◌, ◌%◌, ◌==◌, Bool, true, false, not, cond, List, [], ◌∷◌, map, length, refl, ap, arith, filter, reverse, prefix_len, length-map, binary_digits, ctpop, ctlz, cttz, bit, number, number_of, map-reverse}

lowest : (b : Bool) (n : ℕ) → ((bit b + 2 * n) % 2 == 1) ≡ b
lowest true n = let e : (1 + 2 * n) % 2 ≡ 1 = omega arith in rw e refl
lowest false n = let e : (0 + 2 * n) % 2 ≡ 0 = omega arith in rw e refl

others : (b : Bool) (n : ℕ) → (bit b + 2 * n) / 2 ≡ n
others true n = omega arith
others false n = omega arith

pub digits_of_number : (word : List Bool) → binary_digits (length word) (number word) ≡ word
digits_of_number [] = refl
digits_of_number (b ∷ word) = rw (lowest b (number word), others b (number word)) (ap (λ rest. b ∷ rest) (digits_of_number word))

digits : {L : Type 0} (value : L → Bool) (word : List L) → binary_digits (length word) (number_of value word) ≡ map value word
digits value word = rw length-map at (digits_of_number (map value word))

-- as many of the literals are true as of the values that they have
one_more : {X Y : Type 0} (b : Bool) (x : X) (y : Y) (xs : List X) (ys : List Y) → length xs ≡ length ys → length (cond b (x ∷ xs) xs) ≡ length (cond b (y ∷ ys) ys)
one_more true x y xs ys same = omega arith
one_more false x y xs ys same = same

ones : {L : Type 0} (value : L → Bool) (word : List L) → length (filter (λ (one : Bool). one) (map value word)) ≡ length (filter value word)
ones value [] = refl
ones value (l ∷ word) = one_more (value l) (value l) l _ _ (ones value word)

run : {L : Type 0} (value : L → Bool) (word : List L) → prefix_len not (map value word) ≡ prefix_len (λ l. not (value l)) word
run value [] = refl
run value (l ∷ word) = ap (λ n. cond (not (value l)) (1 + n) 0) (run value word)

pub ones_counted : {L : Type 0} (value : L → Bool) (word : List L) → length (filter value word) ≡ ctpop (length word) (number_of value word)
unfolding ctpop
ones_counted value word = rw (digits value word, ones value word) refl

pub leading_counted : {L : Type 0} (value : L → Bool) (word : List L) → prefix_len (λ l. not (value l)) (reverse word) ≡ ctlz (length word) (number_of value word)
unfolding ctlz
leading_counted value word = rw (digits value word, ← map-reverse value word, run value (reverse word)) refl

pub trailing_counted : {L : Type 0} (value : L → Bool) (word : List L) → prefix_len (λ l. not (value l)) word ≡ cttz (length word) (number_of value word)
unfolding cttz
trailing_counted value word = rw (digits value word, run value word) refl
