-- What numbers with bits that are known have in common with the numbers that tell of these.
use Rattle.known_bits.proofs.Common.{◌≡◌, ℕ, ◌+◌, ◌-◌, ◌*◌, ◌/◌, ◌^◌, ◌<◌, ◌≤◌, Bool, true, false, ◌&&◌, List, [], ◌∷◌, map, length, refl, sym, ap, ◌∙◌, arith, bit_and, div-mul-add, length-map, pow-add, pow-succ', pow_pos, Number, binary_digits, KnownBit, Zero, One, Unknown, certain, number, is_known_as, known_of, Known, NumbersHaveKnownBits}
use Rattle.known_bits.proofs.Having.{Has, has_width, both}
use Rattle.known_bits.proofs.Numbers.{and_number, length_digits, number_digits}
use Rattle.known_bits.proofs.Values.{word_of, word_number, word_has}

and_false : (b : Bool) → (b && false) ≡ false
and_false true = refl
and_false false = refl

no_ones : (x : List KnownBit) (u : List Bool) → Has x u → number (both (λ a b. a && b) u (map (is_known_as false) x)) ≡ 0
no_ones [] [] h = refl
no_ones [] (b ∷ u) h = absurd h
no_ones (k ∷ x) [] h = absurd h
no_ones (Zero ∷ x) (b ∷ u) h = rw (h.0, no_ones x u h.1) refl
no_ones (One ∷ x) (b ∷ u) h = rw (and_false b, no_ones x u h.1) refl
no_ones (Unknown ∷ x) (b ∷ u) h = rw (and_false b, no_ones x u h.1) refl

all_ones : (x : List KnownBit) (u : List Bool) → Has x u → both (λ a b. a && b) u (map (is_known_as true) x) ≡ map (is_known_as true) x
all_ones [] [] h = refl
all_ones [] (b ∷ u) h = absurd h
all_ones (k ∷ x) [] h = absurd h
all_ones (Zero ∷ x) (b ∷ u) h = rw (and_false b, all_ones x u h.1) refl
all_ones (One ∷ x) (b ∷ u) h = rw (h.0, all_ones x u h.1) refl
all_ones (Unknown ∷ x) (b ∷ u) h = rw (and_false b, all_ones x u h.1) refl

pub numbers_have : NumbersHaveKnownBits
numbers_have x n below h =
    let u = word_of n in
    let has = word_has x n.width n refl h in
    let is : number u ≡ n.number = word_number x n.width n refl below in
    let width : (value : Bool) → length (map (is_known_as value) x) ≡ length u = λ value. length-map x (is_known_as value) ∙ sym (has_width x u has) in
    let zeros : bit_and (number u) (number (map (is_known_as false) x)) ≡ 0 = sym (and_number u (map (is_known_as false) x) (width false)) ∙ no_ones x u has in
    let ones : bit_and (number u) (number (map (is_known_as true) x)) ≡ number (map (is_known_as true) x) = sym (and_number u (map (is_known_as true) x) (width true)) ∙ ap number (all_ones x u has) in
    (rw is at zeros, rw is at ones)

-- ---- a number, of which each bit is known
complement : (u : List Bool) → number (map (is_known_as false) (map certain u)) + number u + 1 ≡ 2 ^ length u
complement [] = refl
complement (true ∷ u) = omega (arith, complement u, pow-succ' 2 (length u))
complement (false ∷ u) = omega (arith, complement u, pow-succ' 2 (length u))

all_known : (u : List Bool) → number (map (is_known_as true) (map certain u)) ≡ number u
all_known [] = refl
all_known (true ∷ u) = omega (arith, all_known u)
all_known (false ∷ u) = omega (arith, all_known u)

-- so many ones
pub ones_shifted : (w : ℕ) → w ≤ 64 → 18446744073709551615 / 2 ^ (64 - w) + 1 ≡ 2 ^ w
ones_shifted w few =
    let p = 2 ^ (64 - w) in
    let q = 2 ^ w - 1 in
    let some : 0 < 2 ^ (64 - w) = pow_pos (64 - w) in
    let some_here : 0 < 2 ^ w = pow_pos w in
    let size : w + (64 - w) ≡ 64 = omega arith in
    let whole : 2 ^ w * p ≡ 18446744073709551616 = sym (pow-add 2 w (64 - w)) ∙ ap (λ n. 2 ^ n) size in
    let one_more : 2 ^ w ≡ q + 1 = omega arith in
    let rows : 2 ^ w * p ≡ q * p + p = ap (λ n. n * p) one_more ∙ omega arith in
    let is : 18446744073709551615 ≡ q * p + (p - 1) = omega arith in
    let divided : (q * p + (p - 1)) / p ≡ q = div-mul-add q p (p - 1) (omega arith) in
    let quotient : 18446744073709551615 / p ≡ q = ap (λ n. n / p) is ∙ divided in
    omega (arith, quotient)

pub number_known : (n : Number) (all a b : ℕ) → n.number < 2 ^ n.width → all + 1 ≡ 2 ^ n.width → a ≡ n.number → b ≡ n.number
    → ◌≡◌ {A = Known} (record { zeros = all - a; ones = b }) (known_of (map certain (binary_digits n.width n.number)))
number_known n all a b below whole is_a is_b =
    let u = binary_digits n.width n.number in
    let put : ℕ → ℕ → Known = λ z o. record { zeros = z; ones = o } in
    let is : number u ≡ n.number = number_digits n.width n.number below in
    let sum : number (map (is_known_as false) (map certain u)) + number u + 1 ≡ 2 ^ n.width = complement u ∙ ap (λ w. 2 ^ w) (length_digits n.width n.number) in
    let zeros : all - a ≡ number (map (is_known_as false) (map certain u)) = omega (arith, sum, is, whole, is_a) in
    let ones : b ≡ number (map (is_known_as true) (map certain u)) = is_b ∙ sym is ∙ sym (all_known u) in
    ap (λ z. put z b) zeros ∙ ap (put (number (map (is_known_as false) (map certain u)))) ones
