-- What loops over bits keep from one to the next.
use Rattle.known_bits.proofs.Common.{◌≡◌, ◌==◌, ℕ, suc, ◌+◌, ◌-◌, ◌/◌, ◌%◌, ◌^◌, ◌<◌, ◌≤◌, Bool, true, false, if◌then◌else◌, List, [], ◌∷◌, ◌++◌, map, length, drop, Option, None, Some, refl, sym, subst, ◌∙◌, append_assoc, append-nil, length-drop, pow_mono, arith, slice_get, unwrap_or, length-map, map-id, none-some, same_Some, binary_digits, KnownBit, Unknown, certain, known_not, known_sum, number, number-below, number-all_zero, Operand, unknown, top_of, is_known_as, known_of, known_operand}
use Rattle.ir_core.specs.declared.operand.Operand.TheVariants as operands
use Rattle.ir_core.specs.declared.operand.Register.TheVariants as registers

-- ---- digits
pub digit_more : (bits all : List KnownBit) (N i rest : ℕ) → i < N → bits ++ map certain (binary_digits (N - i) rest) ≡ all → (bits ++ certain (rest % 2 == 1) ∷ []) ++ map certain (binary_digits (N - (i + 1)) (rest / 2)) ≡ all
digit_more bits all N i rest inside before =
    let e : N - i ≡ suc (N - (i + 1)) = omega arith in
    append_assoc bits (certain (rest % 2 == 1) ∷ []) (map certain (binary_digits (N - (i + 1)) (rest / 2))) ∙ (rw e at before)

pub digit_end : (bits all : List KnownBit) (N i rest : ℕ) → N ≤ i → bits ++ map certain (binary_digits (N - i) rest) ≡ all → bits ≡ all
digit_end bits all N i rest over before =
    let e : N - i ≡ 0 = omega arith in
    sym (append-nil bits) ∙ (rw e at before)

-- ---- sums
pub sum_is : (k : KnownBit) (bits a b p q : List KnownBit) → map (λ (x : KnownBit). x) bits ≡ known_sum k (map (λ (x : KnownBit). x) a) (map (λ (x : KnownBit). x) b) → a ≡ p → b ≡ q → bits ≡ known_sum k p q
sum_is k bits a b p q e a_is b_is = sym (map-id bits) ∙ e ∙ rw (map-id a, map-id b, a_is, b_is) refl

pub difference_is : (k : KnownBit) (bits a b p q : List KnownBit) → map (λ (x : KnownBit). x) bits ≡ known_sum k (map (λ (x : KnownBit). x) a) (map known_not (map (λ (x : KnownBit). x) b)) → a ≡ p → b ≡ q → bits ≡ known_sum k p (map known_not q)
difference_is k bits a b p q e a_is b_is = sym (map-id bits) ∙ e ∙ rw (map-id a, map-id b, a_is, b_is) refl

-- ---- the highest bit
pub top_some : (word : List KnownBit) (x : KnownBit) → slice_get word (length word - 1) ≡ Some x → top_of word ≡ x
top_some [] x h = absurd (none-some x h)
top_some (a ∷ []) x h = same_Some a x h
top_some (a ∷ b ∷ word) x h =
    let e : length (a ∷ b ∷ word) - 1 ≡ suc (length (b ∷ word) - 1) = omega arith in
    top_some (b ∷ word) x (subst (λ n. slice_get (a ∷ b ∷ word) n ≡ Some x) e h)

-- ---- numbers from the highest bit down stay small
pub number_small : (value : Bool) (bits : List KnownBit) (i n : ℕ) → i < length bits → n ≡ number (map (is_known_as value) (drop (length bits - i) bits)) → length bits ≤ 64 → n < 2 ^ 63
number_small value bits i n inside is few =
    let front = map (is_known_as value) (drop (length bits - i) bits) in
    let width : length front ≡ i = length-map (drop (length bits - i) bits) (is_known_as value) ∙ length-drop (length bits - i) bits ∙ omega arith in
    let below : number front < 2 ^ i = subst (λ k. number front < 2 ^ k) width (number-below front) in
    let short : i ≤ 63 = omega arith in
    let most : 2 ^ i ≤ 2 ^ 63 = pow_mono short in
    omega (arith, is)

-- ---- where nothing is known the width makes no difference
none_known : (M N : ℕ) → known_of (unknown M) ≡ known_of (unknown N)
none_known M N =
    rw (number-all_zero (is_known_as false) M Unknown refl, number-all_zero (is_known_as true) M Unknown refl, number-all_zero (is_known_as false) N Unknown refl, number-all_zero (is_known_as true) N Unknown refl) refl

one_result : (M N : ℕ) (here : Bool) (o : Option (List KnownBit)) → known_of (if here then unwrap_or o (unknown M) else unknown M) ≡ known_of (if here then unwrap_or o (unknown N) else unknown N)
one_result M N true None = none_known M N
one_result M N true (Some bits) = refl
one_result M N false o = none_known M N

pub any_width : (b : ℕ) (results : List (List KnownBit)) (M N : ℕ) (x : Operand) → known_of (known_operand b results M x) ≡ known_of (known_operand b results N x)
any_width b results M N (operands.Number n) = refl
any_width b results M N (operands.Register (registers.Result c k)) = one_result M N (c == b) (slice_get results k)
any_width b results M N (operands.Register (registers.Parameter p)) = none_known M N
any_width b results M N operands.Undef = none_known M N
any_width b results M N operands.Poison = none_known M N
