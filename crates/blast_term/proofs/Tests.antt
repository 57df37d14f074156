-- Tests of one value, shown from its bits.
use Rattle.blast_term.proofs.Common.{◌≡◌, ℕ, ◌==◌, Bool, true, false, not, ◌&&◌, if◌then◌else◌, Some, None, refl, sym, ap, is_some, bits, least, Poison, exponent, has_one_bit, is_sign_bit}

pub one_bit-held : (poison exists : Bool) (N n k : ℕ) → exponent N n ≡ (if exists then Some k else None) → (exists && not poison) ≡ has_one_bit (if poison then Poison else bits N n)
one_bit-held true true N n k is = refl
one_bit-held true false N n k is = refl
one_bit-held false true N n k is = sym (ap is_some is)
one_bit-held false false N n k is = sym (ap is_some is)

pub sign_bit-held : (poison : Bool) (N n : ℕ) → ((n == least N) && not poison) ≡ is_sign_bit (if poison then Poison else bits N n)
sign_bit-held true N n = elim (n == least N) as (λ b. (b && false) ≡ false) [ true ↦ refl | false ↦ refl ]
sign_bit-held false N n = elim (n == least N) as (λ b. (b && true) ≡ b) [ true ↦ refl | false ↦ refl ]
