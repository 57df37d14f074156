-- Signed numbers compared.
use Rattle.circuits.proofs.Common.{List, map, length, subst, ◌≡◌, ℕ, ◌+◌, ◌-◌, ◌*◌, ◌%◌, ◌^◌, ◌<◌, ◌≤◌, ℤ, pos, ◌+ℤ◌, ◌-ℤ◌, Bool, true, false, nat_lt, nat_le, if◌then◌else◌, sym, ap, ◌∙◌, ⊎_elim, arith, add-one, int_lt, cases_lt, ints, pow-succ', length-map, number, signed}
use Rattle.circuits.proofs.Words.{remainder, number-below}

-- a number below 2 * half, read as a signed one, is raised by half
raised_high : (half a : ℕ) → half ≤ a → a < 2 * half → pos ((a + half) % (2 * half)) ≡ (pos a -ℤ pos (2 * half)) +ℤ pos half
raised_high half a high below =
    let e : a - half ≡ (a + half) % (2 * half) = remainder (a - half) (2 * half) 1 (a + half) (omega arith) (omega arith) in
    ap pos (sym e) ∙ omega (arith, ints)

raised_low : (half a : ℕ) → a < half → pos ((a + half) % (2 * half)) ≡ pos a +ℤ pos half
raised_low half a low =
    let e : a + half ≡ (a + half) % (2 * half) = remainder (a + half) (2 * half) 0 (a + half) (omega arith) (omega arith) in
    ap pos (sym e) ∙ omega (arith, ints)

raised_signed : (half a : ℕ) → a < 2 * half → pos ((a + half) % (2 * half)) ≡ (if nat_le half a then pos a -ℤ pos (2 * half) else pos a) +ℤ pos half
raised_signed half a below =
    ⊎_elim
    (λ (low : a < half). let t : nat_le half a ≡ false = grind arith in rw t (raised_low half a low))
    (λ (high : half ≤ a). let t : nat_le half a ≡ true = grind arith in rw t (raised_high half a high below))
    (cases_lt a half)

int_lt-raised : (a b : ℤ) (m n half : ℕ) → pos m ≡ a +ℤ pos half → pos n ≡ b +ℤ pos half → nat_lt m n ≡ int_lt a b
int_lt-raised a b m n half e f = grind (arith, ints)

pub signed_less : (n top a b : ℕ) → top + 1 ≡ n → a < 2 ^ n → b < 2 ^ n → nat_lt ((a + 2 ^ top) % 2 ^ n) ((b + 2 ^ top) % 2 ^ n) ≡ int_lt (signed n a) (signed n b)
signed_less n top a b last below_a below_b =
    let doubled : 2 ^ n ≡ 2 * 2 ^ top = ap (λ k. 2 ^ k) (sym last ∙ add-one top) ∙ pow-succ' 2 top in
    let half : n - 1 ≡ top = omega arith in
    rw (half, doubled) (int_lt-raised _ _ _ _ (2 ^ top) (raised_signed (2 ^ top) a (omega arith)) (raised_signed (2 ^ top) b (omega arith)))

pub less_raised : {L : Type 0} (value : L → Bool) (a b : List L) (raised_a raised_b : ℕ) → 0 < length a → length b ≡ length a → raised_a ≡ (number (map value a) + 2 ^ (length a - 1)) % 2 ^ length a → raised_b ≡ (number (map value b) + 2 ^ (length b - 1)) % 2 ^ length b → nat_lt raised_a raised_b ≡ int_lt (signed (length a) (number (map value a))) (signed (length a) (number (map value b)))
less_raised value a b raised_a raised_b some same_width a_is b_is =
    let last : (length a - 1) + 1 ≡ length a = omega arith in
    let below_a : number (map value a) < 2 ^ length a = subst (λ k. number (map value a) < 2 ^ k) (length-map a value) (number-below (map value a)) in
    let below_b : number (map value b) < 2 ^ length a = subst (λ k. number (map value b) < 2 ^ k) (length-map b value ∙ same_width) (number-below (map value b)) in
    rw (a_is, b_is, same_width) (signed_less (length a) (length a - 1) (number (map value a)) (number (map value b)) last below_a below_b)
