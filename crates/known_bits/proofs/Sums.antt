-- Sums of words that have the bits that are known of them.
use Rattle.known_bits.proofs.Common.{◌≡◌, ℕ, suc, ◌+◌, ◌-◌, ◌*◌, ◌%◌, ◌^◌, Bool, true, false, not, ◌&&◌, ◌||◌, List, [], ◌∷◌, map, length, refl, ap, ◌∙◌, arith, xor, pow-succ', length-map, KnownBit, known_xor, known_carry, known_sum, bit, number, adder_total, number-sub, sum_remainder, nothing_carried, Allows}
use Rattle.known_bits.proofs.Tables.{allows_xor, allows_carry}
use Rattle.known_bits.proofs.Having.{Has}

-- the bits of a sum
abbrev pub sum : Bool → List Bool → List Bool → List Bool
sum c [] w = []
sum c (a ∷ u) [] = []
sum c (a ∷ u) (b ∷ w) = xor (xor a b) c ∷ sum ((a && b) || (c && xor a b)) u w

pub has_sum : (k : KnownBit) (c : Bool) (p q : List KnownBit) (u w : List Bool) → Allows k c → Has p u → Has q w → Has (known_sum k p q) (sum c u w)
has_sum k c [] q [] w carry h j = tt
has_sum k c [] q (a ∷ u) w carry h j = absurd h
has_sum k c (x ∷ p) q [] w carry h j = absurd h
has_sum k c (x ∷ p) [] (a ∷ u) [] carry h j = tt
has_sum k c (x ∷ p) [] (a ∷ u) (b ∷ w) carry h j = absurd j
has_sum k c (x ∷ p) (y ∷ q) (a ∷ u) [] carry h j = absurd j
has_sum k c (x ∷ p) (y ∷ q) (a ∷ u) (b ∷ w) carry h j = (
  allows_xor (known_xor x y) k (xor a b) c (allows_xor x y a b h.0 j.0) carry,
  has_sum (known_carry x y k) ((a && b) || (c && xor a b)) p q u w (allows_carry x y k a b c h.0 j.0 carry) h.1 j.1,
)

pub width_known_sum : (k : KnownBit) (p q : List KnownBit) → length q ≡ length p → length (known_sum k p q) ≡ length p
width_known_sum k [] q same = refl
width_known_sum k (x ∷ p) [] same = same
width_known_sum k (x ∷ p) (y ∷ q) same = ap suc (width_known_sum (known_carry x y k) p q (omega arith))

width_sum : (c : Bool) (u w : List Bool) → length w ≡ length u → length (sum c u w) ≡ length u
width_sum c [] w same = refl
width_sum c (a ∷ u) [] same = same
width_sum c (a ∷ u) (b ∷ w) same = ap suc (width_sum ((a && b) || (c && xor a b)) u w (omega arith))

-- one digit more, over numbers
digit : (p k s u w carry d a b c : ℕ) → s + p * k ≡ u + w + carry → d + 2 * carry ≡ a + b + c → (d + 2 * s) + (2 * p) * k ≡ (a + 2 * u) + (b + 2 * w) + c
digit p k s u w carry d a b c rest table = omega arith

total : (c : Bool) (u w : List Bool) → length w ≡ length u → (k : ℕ) × (number (sum c u w) + 2 ^ length u * k ≡ number u + number w + bit c)
total c [] [] same = (bit c, omega arith)
total c [] (b ∷ w) same = absurd (omega arith)
total c (a ∷ u) [] same = absurd (omega arith)
total c (a ∷ u) (b ∷ w) same =
    let carry = (a && b) || (c && xor a b) in
    let rest = total carry u w (omega arith) in
    (rest.0, rw (pow-succ' 2 (length u)) (digit (2 ^ length u) rest.0 (number (sum carry u w)) (number u) (number w) (bit carry) (bit (xor (xor a b) c)) (bit a) (bit b) (bit c) rest.1 (adder_total a b c)))

sum_number : (c : Bool) (u w : List Bool) → length w ≡ length u → number (sum c u w) ≡ (number u + number w + bit c) % 2 ^ length u
sum_number c u w same =
    let whole = total c u w same in
    sum_remainder (sum c u w) (length u) whole.0 (number u + number w + bit c) (width_sum c u w same) whole.1

pub added : (u w : List Bool) → length w ≡ length u → number (sum false u w) ≡ (number u + number w) % 2 ^ length u
added u w same = sum_number false u w same ∙ nothing_carried (number u + number w) (2 ^ length u) false refl

pub taken_off : (u w : List Bool) → length w ≡ length u → number (sum true u (map not w)) ≡ (number u + (2 ^ length u - number w)) % 2 ^ length u
taken_off u w same =
    number-sub (length u) (number u) (number (sum true u (map not w))) w (map not w) true refl refl same
    (sum_number true u (map not w) (length-map w not ∙ same))

pub width_added : (u w : List Bool) → length w ≡ length u → length (sum false u w) ≡ length u
width_added u w same = width_sum false u w same

pub width_taken_off : (u w : List Bool) → length w ≡ length u → length (sum true u (map not w)) ≡ length u
width_taken_off u w same = width_sum true u (map not w) (length-map w not ∙ same)
