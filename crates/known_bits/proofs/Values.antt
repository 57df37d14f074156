-- Values that have the bits that are known of them, by words.
use Rattle.known_bits.proofs.Common.{◌≡◌, ℕ, ◌^◌, ◌<◌, Bool, true, false, List, length, if◌then◌else◌, sym, ap, subst, ◌∙◌, Number, binary_digits, bits, HasWidth, IsValueOf, Value, Poison, Bits, KnownBit, number, unknown, HasBits}
use Rattle.known_bits.proofs.Having.{Has, has_unknown}
use Rattle.known_bits.proofs.Numbers.{digits_number, number_digits, length_digits}

-- the word of a number's digits
abbrev pub word_of : Number → List Bool
word_of n = binary_digits n.width n.number

module _ (p : List KnownBit) (N : ℕ) (n : Number) (width : n.width ≡ N) where
  pub word_width : length (word_of n) ≡ N
  word_width = length_digits n.width n.number ∙ width

  pub word_number : n.number < 2 ^ N → number (word_of n) ≡ n.number
  word_number below = number_digits n.width n.number (subst (λ m. n.number < 2 ^ m) (sym width) below)

  pub word_has : HasBits p (Bits n) → Has p (word_of n)
  word_has h = h

-- the number of a word
pub has_bits : (p : List KnownBit) (u : List Bool) (N n : ℕ) → Has p u → length u ≡ N → number u ≡ n → HasBits p (bits N n)
has_bits p u N n h width is = subst (λ w. Has p w) (sym (digits_number u) ∙ ap (λ m. binary_digits m (number u)) width ∙ ap (binary_digits N) is) h

-- a value of a width has as many bits of which nothing is known
pub has_unknown_bits : (N : ℕ) (v : Value) → HasWidth v N → HasBits (unknown N) v
has_unknown_bits N Poison is = tt
has_unknown_bits N (Bits n) is = subst (λ m. Has (unknown m) (binary_digits n.width n.number)) (length_digits n.width n.number ∙ is) (has_unknown (binary_digits n.width n.number))

pub width_of_value : (N : ℕ) (v : Value) → IsValueOf N v → HasWidth v N
width_of_value N Poison is = tt
width_of_value N (Bits n) is = is.0

pub has_nothing : (N : ℕ) (v : Value) → IsValueOf N v → HasBits (unknown N) v
has_nothing N v is = has_unknown_bits N v (width_of_value N v is)

-- or poison
pub or_poison : (p : List KnownBit) (breaks : Bool) (v : Value) → HasBits p v → HasBits p (if breaks then Poison else v)
or_poison p true v h = tt
or_poison p false v h = h
