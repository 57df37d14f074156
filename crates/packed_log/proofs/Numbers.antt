-- Bytes that are read as one number (LEB128).
use Rattle.packed_log.proofs.Common.{◌≡◌, ℕ, zero, suc, ◌+◌, ◌-◌, ◌*◌, ◌/◌, ◌%◌, ◌<◌, ◌≤◌, List, [], ◌∷◌, ◌++◌, take, drop, get_or, length, All, refl, sym, ap, subst, ◌∙◌, append_assoc, arith, append-nil, drop_all, drop_more, All-head, All-tail, nat_tests, first_number, behind_number, Adds, IsNumber}

last_byte : (n : ℕ) → n < 128 → IsNumber n (n ∷ [])
last_byte n small = record { first = λ rest. grind (arith, nat_tests); behind = λ rest. grind (arith, nat_tests) }

one_more_byte : (n : ℕ) (word : List ℕ) → 128 ≤ n → IsNumber (n / 128) word → IsNumber n ((n % 128 + 128) ∷ word)
one_more_byte n word large h = record {
  first = λ rest. let e : first_number (word ++ rest) ≡ n / 128 = h.first rest in grind (arith, nat_tests);
  behind = λ rest. let e : behind_number (word ++ rest) ≡ rest = h.behind rest in grind (arith, nat_tests);
}

-- Bytes were added that are read as the number, once bytes that are read as the rest are added behind them.
pub record NumberSoFar (number rest : ℕ) (old new : List ℕ) : Type 0 where
  pub word : List ℕ
  pub is : new ≡ old ++ word
  pub then : (last : List ℕ) → IsNumber rest last → IsNumber number (word ++ last)

pub no_byte_yet : (number : ℕ) (old : List ℕ) → NumberSoFar number number old old
no_byte_yet number old = record { word = []; is = sym (append-nil old); then = λ last h. h }

pub byte_more : (number rest : ℕ) (old new newer : List ℕ) → NumberSoFar number rest old new → 128 ≤ rest → newer ≡ new ++ (rest % 128 + 128) ∷ [] → NumberSoFar number (rest / 128) old newer
byte_more number rest old new newer h large is = record {
  word = h.word ++ (rest % 128 + 128) ∷ [];
  is = is ∙ ap (λ (k : List ℕ). k ++ (rest % 128 + 128) ∷ []) h.is ∙ append_assoc old h.word _;
  then = λ last l. subst (IsNumber number) (sym (append_assoc h.word ((rest % 128 + 128) ∷ []) last)) (h.then _ (one_more_byte rest last large l));
}

pub byte_last : (number rest : ℕ) (old new newer : List ℕ) → NumberSoFar number rest old new → rest < 128 → newer ≡ new ++ rest ∷ [] → Adds (IsNumber number) old newer
byte_last number rest old new newer h small is =
    (h.word ++ rest ∷ [], is ∙ ap (λ (k : List ℕ). k ++ rest ∷ []) h.is ∙ append_assoc old h.word _, h.then _ (last_byte rest small))

-- numbers that are read byte by byte, from the last byte on

first_more : (byte : ℕ) (bytes : List ℕ) → 128 ≤ byte → first_number (byte ∷ bytes) ≡ (byte - 128) + 128 * first_number bytes
first_more byte bytes more = grind (arith, nat_tests)

first_last : (byte : ℕ) (bytes : List ℕ) → byte < 128 → first_number (byte ∷ bytes) ≡ byte
first_last byte bytes last = grind (arith, nat_tests)

behind_more : (byte : ℕ) (bytes : List ℕ) → 128 ≤ byte → behind_number (byte ∷ bytes) ≡ behind_number bytes
behind_more byte bytes more = grind (arith, nat_tests)

behind_last : (byte : ℕ) (bytes : List ℕ) → byte < 128 → behind_number (byte ∷ bytes) ≡ bytes
behind_last byte bytes last = grind (arith, nat_tests)

-- a byte with the high bit set: its low seven bits, and 128 times the number that the bytes behind it begin with
pub first_of_more : (bytes : List ℕ) (place : ℕ) → place < length bytes → 128 ≤ get_or bytes place 0 → first_number (drop place bytes) ≡ (get_or bytes place 0 - 128) + 128 * first_number (drop (place + 1) bytes)
first_of_more bytes place within more =
    ap first_number (drop_more bytes place 0 within) ∙ first_more (get_or bytes place 0) (drop (place + 1) bytes) more

-- a byte without the high bit is the number itself; behind the end of the bytes the number is 0
pub first_of_last : (bytes : List ℕ) (count : ℕ) → All (λ byte. byte < 128) (take 1 (drop count bytes)) → first_number (drop count bytes) ≡ get_or bytes count 0
first_of_last [] zero last = refl
first_of_last [] (suc count) last = refl
first_of_last (byte ∷ bytes) zero last = first_last byte bytes (All-head (λ b. b < 128) byte [] last)
first_of_last (byte ∷ bytes) (suc count) last = first_of_last bytes count last

pub more_at : (bytes : List ℕ) (place count : ℕ) → place < count → count ≤ length bytes → All (λ byte. 128 ≤ byte) (take count bytes) → 128 ≤ get_or bytes place 0
more_at [] place zero below within more = absurd (omega (arith, below))
more_at [] place (suc count) below within more = absurd (omega (arith, within))
more_at (byte ∷ bytes) place zero below within more = absurd (omega (arith, below))
more_at (byte ∷ bytes) zero (suc count) below within more = All-head (λ b. 128 ≤ b) byte (take count bytes) more
more_at (byte ∷ bytes) (suc place) (suc count) below within more =
    more_at bytes place count (omega (arith, below)) (omega (arith, within)) (All-tail (λ b. 128 ≤ b) byte (take count bytes) more)

-- The number read from a later byte on is no greater, where the bytes before it have the high bit set.
pub first_number-later : (bytes : List ℕ) (place count : ℕ) → place ≤ count → All (λ byte. 128 ≤ byte) (take count bytes) → first_number (drop place bytes) ≤ first_number bytes
first_number-later bytes zero count le more = omega arith
first_number-later [] (suc place) count le more = omega arith
first_number-later (byte ∷ bytes) (suc place) zero le more = absurd (omega (arith, le))
first_number-later (byte ∷ bytes) (suc place) (suc count) le more =
    let rest = first_number-later bytes place count (omega (arith, le)) (All-tail (λ b. 128 ≤ b) byte (take count bytes) more) in
    omega (arith, rest, first_more byte bytes (All-head (λ b. 128 ≤ b) byte (take count bytes) more))

pub behind_number-leading : (bytes : List ℕ) (count : ℕ) → All (λ byte. 128 ≤ byte) (take count bytes) → All (λ byte. byte < 128) (take 1 (drop count bytes)) → behind_number bytes ≡ drop (count + 1) bytes
behind_number-leading [] zero more last = refl
behind_number-leading [] (suc count) more last = sym (drop_all (suc count + 1) [] (omega arith))
behind_number-leading (byte ∷ bytes) zero more last = behind_last byte bytes (All-head (λ b. b < 128) byte [] last)
behind_number-leading (byte ∷ bytes) (suc count) more last =
    let next : suc (count + 1) ≡ suc count + 1 = omega arith in
    behind_more byte bytes (All-head (λ b. 128 ≤ b) byte (take count bytes) more)
    ∙ behind_number-leading bytes count (All-tail (λ b. 128 ≤ b) byte (take count bytes) more) last
    ∙ ap (λ n. drop n (byte ∷ bytes)) next

-- the byte before those that were read is read too
pub byte_before : (bytes : List ℕ) (place count number : ℕ) → 0 < place → place ≤ count → count ≤ length bytes → All (λ byte. 128 ≤ byte) (take count bytes) → number ≡ first_number (drop place bytes) → 128 * number + (get_or bytes (place - 1) 0 - 128) ≡ first_number (drop (place - 1) bytes)
byte_before bytes place count number first le within more is =
    let k = place - 1 in
    let same : place ≡ k + 1 = omega (arith, first) in
    let number_is : number ≡ first_number (drop (k + 1) bytes) = is ∙ ap (λ j. first_number (drop j bytes)) same in
    omega (arith, number_is, first_of_more bytes k (omega (arith, first, le, within)) (more_at bytes k count (omega (arith, first, le)) within more))
