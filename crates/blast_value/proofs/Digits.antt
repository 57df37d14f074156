-- Words that are made digit by digit.
use Rattle.blast_value.proofs.Common.{◌≡◌, ◌==◌, ℕ, suc, zero, ◌+◌, ◌*◌, ◌/◌, ◌%◌, ◌^◌, ◌<◌, Bool, true, false, List, [], ◌∷◌, ◌++◌, map, take, length, get_or, refl, ap, subst, ◌∙◌, arith, xor, bit_xor, nat_tests, map-append, length-map, length-take-le, and_block, or_block, xor_block, bit, number, number_of, doubled, number-push, number-below, number-take_more, Bitwise, bitwise}
use Rattle.blast_value.specs.declared.bitwise.Bitwise.TheVariants.{And, Or, Xor}

lowest_bit : (n : ℕ) → bit (n % 2 == 1) ≡ n % 2
lowest_bit n = grind (arith, nat_tests)

-- one more digit of a number is split off
digit_more : (p p' before number rest : ℕ) → p' ≡ 2 * p → before + p * rest ≡ number → (before + p * (rest % 2)) + p' * (rest / 2) ≡ number
digit_more p p' before number rest twice before_is =
    let parts : rest ≡ 2 * (rest / 2) + rest % 2 = omega arith in
    let product : p * rest ≡ 2 * (p * (rest / 2)) + p * (rest % 2) = ap (λ n. p * n) parts ∙ omega arith in
    rw twice (omega arith)

pub constant_more : {L : Type 0} (value : L → Bool) (word : List L) (b : L) (i rest number : ℕ) → length word ≡ i → number_of value word + 2 ^ i * rest ≡ number → value b ≡ (rest % 2 == 1) → number_of value (word ++ b ∷ []) + 2 ^ (i + 1) * (rest / 2) ≡ number
constant_more value word b i rest number width before b_is =
    let places : length (map value word) ≡ i = length-map word value ∙ width in
    rw (map-append value word (b ∷ []), number-push (map value word) (value b), places, b_is, lowest_bit rest)
    (digit_more (2 ^ i) (2 ^ (i + 1)) (number_of value word) number rest (doubled i) before)

-- after all digits the rest is 0, so the digits are those of the whole number
pub constant_whole : (p before rest number : ℕ) → before + p * rest ≡ number → number < p → before ≡ number
constant_whole p before zero number total below = omega arith
constant_whole p before (suc rest) number total below = absurd (omega arith)

-- one more digit of two numbers, bit by bit
block : (op : Bitwise) (k a b r s : ℕ) → r < 2 ^ k → s < 2 ^ k → bitwise op (a * 2 ^ k + r) (b * 2 ^ k + s) ≡ bitwise op a b * 2 ^ k + bitwise op r s
block And k a b r s p q = and_block k a b r s p q
block Or k a b r s p q = or_block k a b r s p q
block Xor k a b r s p q = xor_block k a b r s p q

front_below : {L : Type 0} (value : L → Bool) (a : List L) (i : ℕ) → i < length a → number (map value (take i a)) < 2 ^ i
front_below value a i inside =
    let places : length (map value (take i a)) ≡ i = length-map (take i a) value ∙ length-take-le i a (omega arith) in
    subst (λ k. number (map value (take i a)) < 2 ^ k) places (number-below (map value (take i a)))

pub combined_more : {L : Type 0} (op : Bitwise) (old now next : L → Bool) (a b word : List L) (i : ℕ) (x y made : L) → i < length a → i < length b → x ≡ get_or a i x → y ≡ get_or b i y → now x ≡ old x → now y ≡ old y → length word ≡ i → map next word ≡ map now word → bit (next made) ≡ bitwise op (bit (now x)) (bit (now y)) → number_of now word ≡ bitwise op (number_of old (take i a)) (number_of old (take i b)) → number_of next (word ++ made ∷ []) ≡ bitwise op (number_of old (take (i + 1) a)) (number_of old (take (i + 1) b))
combined_more op old now next a b word i x y made in_a in_b at_x at_y x_kept y_kept width kept made_is before =
    let places : length (map now word) ≡ i = length-map word now ∙ width in
    let digits = block op i (bit (old x)) (bit (old y)) (number_of old (take i a)) (number_of old (take i b)) (front_below old a i in_a) (front_below old b i in_b) in
    let left : number_of old (take (i + 1) a) ≡ bit (old x) * 2 ^ i + number_of old (take i a) = number-take_more old a i x in_a at_x ∙ omega arith in
    let right : number_of old (take (i + 1) b) ≡ bit (old y) * 2 ^ i + number_of old (take i b) = number-take_more old b i y in_b at_y ∙ omega arith in
    rw (map-append next word (made ∷ []), kept, number-push (map now word) (next made), places, made_is, x_kept, y_kept, before, left, right, digits) (omega arith)

pub bit-xor : (x y : Bool) → bit (xor x y) ≡ bit_xor (bit x) (bit y)
unfolding mathlib.Core.Bool.xor
bit-xor true true = refl
bit-xor true false = refl
bit-xor false true = refl
bit-xor false false = refl
