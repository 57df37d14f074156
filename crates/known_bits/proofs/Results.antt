-- The results of instructions on operands that have the bits that are known of them have those that are known of them.
use Rattle.known_bits.proofs.Common.{◌≡◌, ℕ, ◌+◌, ◌-◌, ◌*◌, ◌/◌, ◌%◌, ◌^◌, ◌<◌, ◌≤◌, Bool, true, false, not, ◌&&◌, ◌||◌, ◌==◌, nat_lt, nat_le, if◌then◌else◌, List, ◌++◌, map, length, take, replicate, refl, length-append, sym, ap, subst, ◌∙◌, arith, bit_and, bit_or, bit_xor, pos, ◌+ℤ◌, ◌-ℤ◌, ◌*ℤ◌, xor, int_div_euclid, length-take-le, length-replicate, Number, bits, signed, residue, fits_unsigned, fits_signed, arithmetic, divides, exactly, shl, lshr, ashr, or, instruction, on_numbers, on_poison, selection, CastFits, conversion, converted, breaks_flags, IsValueOf, Opcode, Add, Sub, Mul, UDiv, SDiv, URem, SRem, Shl, LShr, AShr, And, Or, Xor, UMin, UMax, SMin, SMax, Flags, Cast, Trunc, ZExt, SExt, Value, Poison, Bits, Effect, Undefined, Gives, KnownBit, Zero, One, Up, Down, known_not, known_and, known_or, known_xor, known_agreed, known_sum, moved, bit, number, number-take, number-extended, length-moved, moved_up_number, moved_down_number, Operand, read, AnyNumber, OperandGives, unknown, bit_by_bit, top_of, shifted, known_result, Allows, HasBits, ResultsHaveKnownBits}
use Rattle.ir_core.specs.declared.instruction.Op.TheVariants as ops
use Rattle.ir_core.specs.declared.operand.Operand.TheVariants as operands
use Rattle.known_bits.proofs.Tables.{allows_and, allows_or, allows_xor}
use Rattle.known_bits.proofs.Having.{Has, has_width, has_not, has_append, has_replicate, has_take, has_moved, both, has_both, has_first, has_second, highest, has_highest, width_both}
use Rattle.known_bits.proofs.Sums.{sum, has_sum, added, taken_off, width_added, width_taken_off}
use Rattle.known_bits.proofs.Numbers.{and_number, or_number, xor_number, highest_sign, residue-pos, difference, extended, signed_floor}
use Rattle.known_bits.proofs.Values.{word_of, word_width, word_number, word_has, has_bits, has_nothing, or_poison}

-- the value that an effect gives, if it gives one, has the bits
abbrev EffectHas : List KnownBit → Effect → Type 0
EffectHas p Undefined = Unit {0}
EffectHas p (Gives v) = HasBits p v

-- ---- at numbers
-- a word of N bits, of which some are known, and its number
record IsWord (p : List KnownBit) (N : ℕ) (u : List Bool) (n : ℕ) : Type 0 where
  has : Has p u
  known_width : length p ≡ N
  width : length u ≡ N
  is : number u ≡ n
  below : n < 2 ^ N

is_word : (p : List KnownBit) (N : ℕ) (n : Number) → length p ≡ N → IsValueOf N (Bits n) → HasBits p (Bits n) → IsWord p N (word_of n) n.number
is_word p N n width is h = record {
  has = word_has p N n is.0 h;
  known_width = width;
  width = word_width p N n is.0;
  is = word_number p N n is.0 is.1;
  below = is.1;
}

module _ (p q : List KnownBit) (N : ℕ) (u w : List Bool) (a b : ℕ) (x : IsWord p N u a) (y : IsWord q N w b) where
  same_width : length w ≡ length u
  same_width = y.width ∙ sym x.width

  each_bit : (gate : KnownBit → KnownBit → KnownBit) (op : Bool → Bool → Bool) (n : ℕ) → ((k l : KnownBit) (c d : Bool) → Allows k c → Allows l d → Allows (gate k l) (op c d)) → number (both op u w) ≡ n → HasBits (bit_by_bit gate p q) (bits N n)
  each_bit gate op n table is =
      let has = has_both gate op table p q u w x.has y.has in
      has_bits (bit_by_bit gate p q) (both op u w) N n has
      (has_width (bit_by_bit gate p q) (both op u w) has ∙ width_both gate p q (y.known_width ∙ sym x.known_width) ∙ x.known_width)
      is

  and_has : HasBits (bit_by_bit known_and p q) (bits N (bit_and a b))
  and_has = each_bit known_and (λ c d. c && d) (bit_and a b) allows_and (and_number u w same_width ∙ rw (x.is, y.is) refl)

  or_has : HasBits (bit_by_bit known_or p q) (bits N (bit_or a b))
  or_has = each_bit known_or (λ c d. c || d) (bit_or a b) allows_or (or_number u w same_width ∙ rw (x.is, y.is) refl)

  xor_has : HasBits (bit_by_bit known_xor p q) (bits N (bit_xor a b))
  xor_has = each_bit known_xor xor (bit_xor a b) allows_xor (xor_number u w same_width ∙ rw (x.is, y.is) refl)

  sum_has : HasBits (known_sum Zero p q) (bits N (residue N (pos a +ℤ pos b)))
  sum_has =
      has_bits (known_sum Zero p q) (sum false u w) N (residue N (pos a +ℤ pos b)) (has_sum Zero false p q u w refl x.has y.has) (width_added u w same_width ∙ x.width)
      (added u w same_width ∙ rw (x.is, y.is, x.width) (sym (residue-pos N (a + b))))

  difference_has : HasBits (known_sum One p (map known_not q)) (bits N (residue N (pos a -ℤ pos b)))
  difference_has =
      has_bits (known_sum One p (map known_not q)) (sum true u (map not w)) N (residue N (pos a -ℤ pos b)) (has_sum One true p (map known_not q) u (map not w) refl x.has (has_not q w y.has)) (width_taken_off u w same_width ∙ x.width)
      (taken_off u w same_width ∙ rw (x.is, y.is, x.width) (difference N a b x.below y.below))

module _ (p : List KnownBit) (N : ℕ) (u : List Bool) (a : ℕ) (x : IsWord p N u a) where
  up_has : (n : ℕ) → HasBits (moved Up Zero n p) (bits N (residue N (pos a *ℤ pos (2 ^ n))))
  up_has n =
      has_bits (moved Up Zero n p) (moved Up false n u) N (residue N (pos a *ℤ pos (2 ^ n))) (has_moved Up Zero false n p u refl x.has) (length-moved Up false n u ∙ x.width)
      (moved_up_number n u ∙ rw (x.is, x.width) (sym (residue-pos N (a * 2 ^ n))))

  down_has : (n : ℕ) → HasBits (moved Down Zero n p) (bits N (a / 2 ^ n))
  down_has n =
      let nothing : a + bit false * (2 ^ (N + n) - 2 ^ N) ≡ a = omega arith in
      has_bits (moved Down Zero n p) (moved Down false n u) N (a / 2 ^ n) (has_moved Down Zero false n p u refl x.has) (length-moved Down false n u ∙ x.width)
      (moved_down_number n u false ∙ rw (x.is, x.width, nothing) refl)

  highest_is : highest u ≡ nat_le (2 ^ (N - 1)) a
  highest_is = highest_sign u ∙ rw (x.is, x.width) refl

  signed_down_has : (n : ℕ) → HasBits (moved Down (top_of p) n p) (bits N (residue N (int_div_euclid (signed N a) (pos (2 ^ n)))))
  signed_down_has n =
      let top = highest u in
      has_bits (moved Down (top_of p) n p) (moved Down top n u) N (residue N (int_div_euclid (signed N a) (pos (2 ^ n)))) (has_moved Down (top_of p) top n p u (has_highest p u x.has) x.has) (length-moved Down top n u ∙ x.width)
      (moved_down_number n u top ∙ rw (x.is, x.width) (signed_floor N n a top x.below highest_is))

  cut_has : (M : ℕ) → M < N → HasBits (take M p) (bits M (a % 2 ^ M))
  cut_has M fewer =
      let inside : M ≤ length u = omega (arith, x.width) in
      has_bits (take M p) (take M u) M (a % 2 ^ M) (has_take M p u x.has) (length-take-le M u inside) (number-take M u inside ∙ rw x.is refl)

  longer : (M : ℕ) (k : KnownBit) (top : Bool) (n : ℕ) → N < M → Allows k top → a + bit top * (2 ^ M - 2 ^ N) ≡ n → HasBits (p ++ replicate (M - N) k) (bits M n)
  longer M k top n more fill is =
      let whole : N + (M - N) ≡ M = omega arith in
      has_bits (p ++ replicate (M - N) k) (u ++ replicate (M - N) top) M n (has_append p (replicate (M - N) k) u (replicate (M - N) top) x.has (has_replicate (M - N) k top fill))
      (length-append u (replicate (M - N) top) ∙ rw (length-replicate (M - N) top, x.width) whole)
      (number-extended u (M - N) top ∙ rw (x.is, x.width, whole) is)

-- ---- at values
-- poison where an operand is, and else what it gives at numbers
two_values : (p q r : List KnownBit) (op : Opcode) (flags : Flags) (N : ℕ) (x y : Value) → ((z : Value) → on_poison op N z ≡ Gives Poison)
    → length p ≡ N → length q ≡ N → IsValueOf N x × HasBits p x → IsValueOf N y × HasBits q y
    → ((a b : Number) → IsWord p N (word_of a) a.number → IsWord q N (word_of b) b.number → EffectHas r (on_numbers op flags N a.number b.number))
    → EffectHas r (instruction op flags N x y)
unfolding instruction
two_values p q r op flags N (Bits a) (Bits b) poison width_p width_q hx hy numbers = numbers a b (is_word p N a width_p hx.0 hx.1) (is_word q N b width_q hy.0 hy.1)
two_values p q r op flags N (Bits a) Poison poison width_p width_q hx hy numbers = subst (EffectHas r) (sym (poison Poison)) tt
two_values p q r op flags N Poison y poison width_p width_q hx hy numbers = subst (EffectHas r) (sym (poison y)) tt

-- the same by an amount that is a number
by_amount : (p r : List KnownBit) (op : Opcode) (flags : Flags) (N : ℕ) (x : Value) (n : Number) → ((z : Value) → on_poison op N z ≡ Gives Poison)
    → length p ≡ N → IsValueOf N x × HasBits p x
    → ((a : Number) → IsWord p N (word_of a) a.number → EffectHas r (on_numbers op flags N a.number n.number))
    → EffectHas r (instruction op flags N x (Bits n))
unfolding instruction
by_amount p r op flags N (Bits a) n poison width hx numbers = numbers a (is_word p N a width hx.0 hx.1)
by_amount p r op flags N Poison n poison width hx numbers = subst (EffectHas r) (sym (poison (Bits n))) tt

-- poison where the amount isn't below the width, or a remainder is left that was to be none
shifted_right : (p : List KnownBit) (flags : Flags) (far divided : Bool) (v : Value) → HasBits p v → HasBits p (if far then Poison else exactly flags divided v)
shifted_right p flags far divided v h = or_poison p far (exactly flags divided v) (or_poison p (flags.exact && not divided) v h)

either : (p q : List KnownBit) (b : Bool) (v : Value) → HasBits p v → HasBits q v → HasBits (if b then p else q) v
either p q true v h k = h
either p q false v h k = k

-- a shift by what isn't a number below the width may give anything
by_operand : (N : ℕ) (y : Operand) (by : ℕ → List KnownBit) (v : Value) → IsValueOf N v → ((n : Number) → y ≡ operands.Number n → HasBits (by n.number) v) → HasBits (shifted N y by) v
by_operand N (operands.Number n) by v is numbers = either (by n.number) (unknown N) (nat_lt n.number N) v (numbers n refl) (has_nothing N v is)
by_operand N (operands.Register r) by v is numbers = has_nothing N v is
by_operand N operands.Undef by v is numbers = has_nothing N v is
by_operand N operands.Poison by v is numbers = has_nothing N v is

-- ---- instructions with two operands
-- What is known of both operands, their values, and what the instruction gives. A literal number gives itself. Whatever
-- flags it has, those of its result may be others.
module _ (known : ℕ → Operand → List KnownBit) (N : ℕ) (flags other : Flags) (x y : Operand) (width_x : length (known N x) ≡ N) (width_y : length (known N y) ≡ N) (xv yv v : Value)
    (at_x : IsValueOf N xv × HasBits (known N x) xv) (at_y : IsValueOf N yv × HasBits (known N y) yv) (literal : (n : Number) → y ≡ operands.Number n → yv ≡ Bits n) where
  at_values : (r : List KnownBit) (op : Opcode) → ((z : Value) → on_poison op N z ≡ Gives Poison) → Gives v ≡ instruction op flags N xv yv
      → ((a b : Number) → IsWord (known N x) N (word_of a) a.number → IsWord (known N y) N (word_of b) b.number → EffectHas r (on_numbers op flags N a.number b.number))
      → HasBits r v
  at_values r op poison e numbers = subst (EffectHas r) (sym e) (two_values (known N x) (known N y) r op flags N xv yv poison width_x width_y at_x at_y numbers)

  by_shift : (op : Opcode) (by : ℕ → List KnownBit) → IsValueOf N v → ((z : Value) → on_poison op N z ≡ Gives Poison) → Gives v ≡ instruction op flags N xv yv
      → ((n a : Number) → IsWord (known N x) N (word_of a) a.number → EffectHas (by n.number) (on_numbers op flags N a.number n.number))
      → HasBits (shifted N y by) v
  by_shift op by is poison e numbers =
      by_operand N y by v is (λ n amount.
      let e' : Gives v ≡ instruction op flags N xv (Bits n) = e ∙ ap (instruction op flags N xv) (literal n amount) in
      subst (EffectHas (by n.number)) (sym e') (by_amount (known N x) (by n.number) op flags N xv n poison width_x at_x (numbers n)))

  pub binary_has : (op : Opcode) → IsValueOf N v → Gives v ≡ instruction op flags N xv yv → HasBits (known_result known N (ops.Binary op other x y)) v
  unfolding on_numbers on_poison arithmetic or shl lshr ashr
  binary_has And is e = at_values (bit_by_bit known_and (known N x) (known N y)) And (λ z. refl) e (λ a b wa wb. and_has (known N x) (known N y) N (word_of a) (word_of b) a.number b.number wa wb)
  binary_has Or is e =
      at_values (bit_by_bit known_or (known N x) (known N y)) Or (λ z. refl) e
      (λ a b wa wb. or_poison (bit_by_bit known_or (known N x) (known N y)) _ (bits N (bit_or a.number b.number)) (or_has (known N x) (known N y) N (word_of a) (word_of b) a.number b.number wa wb))
  binary_has Xor is e = at_values (bit_by_bit known_xor (known N x) (known N y)) Xor (λ z. refl) e (λ a b wa wb. xor_has (known N x) (known N y) N (word_of a) (word_of b) a.number b.number wa wb)
  binary_has Add is e =
      at_values (known_sum Zero (known N x) (known N y)) Add (λ z. refl) e
      (λ a b wa wb. or_poison (known_sum Zero (known N x) (known N y)) _ (bits N (residue N (pos a.number +ℤ pos b.number))) (sum_has (known N x) (known N y) N (word_of a) (word_of b) a.number b.number wa wb))
  binary_has Sub is e =
      at_values (known_sum One (known N x) (map known_not (known N y))) Sub (λ z. refl) e
      (λ a b wa wb. or_poison (known_sum One (known N x) (map known_not (known N y))) _ (bits N (residue N (pos a.number -ℤ pos b.number))) (difference_has (known N x) (known N y) N (word_of a) (word_of b) a.number b.number wa wb))
  binary_has Shl is e =
      by_shift Shl (λ n. moved Up Zero n (known N x)) is (λ z. refl) e
      (λ n a wa.
      let p = moved Up Zero n.number (known N x) in
      let u = pos a.number *ℤ pos (2 ^ n.number) in
      let s = signed N a.number *ℤ pos (2 ^ n.number) in
      or_poison p (nat_le N n.number) (arithmetic flags N u s)
      (or_poison p ((flags.nuw && not (fits_unsigned N u)) || (flags.nsw && not (fits_signed N s))) (bits N (residue N u)) (up_has (known N x) N (word_of a) a.number wa n.number)))
  binary_has LShr is e =
      by_shift LShr (λ n. moved Down Zero n (known N x)) is (λ z. refl) e
      (λ n a wa.
      let v = bits N (a.number / 2 ^ n.number) in
      shifted_right (moved Down Zero n.number (known N x)) flags (nat_le N n.number) (divides (2 ^ n.number) a.number) v (down_has (known N x) N (word_of a) a.number wa n.number))
  binary_has AShr is e =
      by_shift AShr (λ n. moved Down (top_of (known N x)) n (known N x)) is (λ z. refl) e
      (λ n a wa.
      let v = bits N (residue N (int_div_euclid (signed N a.number) (pos (2 ^ n.number)))) in
      shifted_right (moved Down (top_of (known N x)) n.number (known N x)) flags (nat_le N n.number) (divides (2 ^ n.number) a.number) v (signed_down_has (known N x) N (word_of a) a.number wa n.number))
  binary_has Mul is e = has_nothing N v is
  binary_has UDiv is e = has_nothing N v is
  binary_has SDiv is e = has_nothing N v is
  binary_has URem is e = has_nothing N v is
  binary_has SRem is e = has_nothing N v is
  binary_has UMin is e = has_nothing N v is
  binary_has UMax is e = has_nothing N v is
  binary_has SMin is e = has_nothing N v is
  binary_has SMax is e = has_nothing N v is

-- ---- casts
-- of such flags; those of the result may be others
pub cast_has : (p : List KnownBit) (M N : ℕ) (cast : Cast) (flags other : Flags) (known : ℕ → Operand → List KnownBit) (x : Operand) (v : Value) → known M x ≡ p → length p ≡ M → CastFits cast M N → IsValueOf M v × HasBits p v → HasBits (known_result known N (ops.Convert cast other M x)) (conversion cast flags M N v)
unfolding conversion converted
cast_has p M N Trunc flags other known x Poison p_is width fits h = tt
cast_has p M N ZExt flags other known x Poison p_is width fits h = tt
cast_has p M N SExt flags other known x Poison p_is width fits h = tt
cast_has p M N Trunc flags other known x (Bits a) p_is width fits h =
    rw p_is (or_poison (take N p) (breaks_flags Trunc flags M N a.number) (bits N (a.number % 2 ^ N)) (cut_has p M (word_of a) a.number (is_word p M a width h.0 h.1) N fits))
cast_has p M N ZExt flags other known x (Bits a) p_is width fits h =
    let same : a.number + bit false * (2 ^ N - 2 ^ M) ≡ a.number = omega arith in
    rw p_is (or_poison (p ++ replicate (N - M) Zero) (breaks_flags ZExt flags M N a.number) (bits N a.number) (longer p M (word_of a) a.number (is_word p M a width h.0 h.1) N Zero false a.number fits refl same))
cast_has p M N SExt flags other known x (Bits a) p_is width fits h =
    let word = is_word p M a width h.0 h.1 in
    let top = highest (word_of a) in
    rw p_is (or_poison (p ++ replicate (N - M) (top_of p)) (breaks_flags SExt flags M N a.number) (bits N (residue N (signed M a.number)))
    (longer p M (word_of a) a.number word N (top_of p) top (residue N (signed M a.number)) fits (has_highest p (word_of a) word.has) (extended M N a.number top fits word.below (highest_is p M (word_of a) a.number word))))

-- ---- choices
first_arm : (p q : List KnownBit) (v : Value) → length q ≡ length p → HasBits p v → HasBits (bit_by_bit known_agreed p q) v
first_arm p q Poison same h = tt
first_arm p q (Bits n) same h = has_first p q (word_of n) same h

second_arm : (p q : List KnownBit) (v : Value) → length q ≡ length p → HasBits q v → HasBits (bit_by_bit known_agreed p q) v
second_arm p q Poison same h = tt
second_arm p q (Bits n) same h = has_second p q (word_of n) same h

one_arm : (r : List KnownBit) (b : Bool) (x y : Value) → HasBits r x → HasBits r y → HasBits r (if b then x else y)
one_arm r true x y h k = h
one_arm r false x y h k = k

pub choice_has : (p q : List KnownBit) (z x y : Value) → length q ≡ length p → HasBits p x → HasBits q y → HasBits (bit_by_bit known_agreed p q) (selection z x y)
unfolding selection
choice_has p q Poison x y same h k = tt
choice_has p q (Bits c) x y same h k = one_arm (bit_by_bit known_agreed p q) (c.number == 1) x y (first_arm p q x same h) (second_arm p q y same k)

-- ---- all instructions
pub results_have : ResultsHaveKnownBits
results_have known f b k held N (ops.Binary op flags x y) v typed at h is =
    let at_x = at 0 (read b k N x) refl in
    let at_y = at 1 (read b k N y) refl in
    binary_has known N flags flags x y at_x.0 at_y.0 h.0 h.1 v (at_x.1 h.0 h.2) (at_y.1 h.1 h.3) (λ n amount. subst (λ z. OperandGives AnyNumber held N z h.1) amount h.3) op is h.4
results_have known f b k held N (ops.Select c x y) v typed at h is =
    let at_x = at 1 (read b k N x) refl in
    let at_y = at 2 (read b k N y) refl in
    subst (EffectHas (bit_by_bit known_agreed (known N x) (known N y))) (sym h.6)
    (choice_has (known N x) (known N y) h.0 h.1 h.2 (at_y.0 ∙ sym at_x.0) (at_x.1 h.1 h.4).1 (at_y.1 h.2 h.5).1)
results_have known f b k held N (ops.Convert cast flags M x) v typed at h is =
    let at_x = at 0 (read b k M x) refl in
    subst (EffectHas (known_result known N (ops.Convert cast flags M x))) (sym h.2)
    (cast_has (known M x) M N cast flags flags known x h.0 refl at_x.0 typed.1 (at_x.1 h.0 h.1))
results_have known f b k held N (ops.Compare pred samesign M x y) v typed at h is = has_nothing N v is
results_have known f b k held N (ops.Unary op truth x) v typed at h is = has_nothing N v is
results_have known f b k held N (ops.Freeze x) v typed at h is = has_nothing N v is
results_have known f b k held N (ops.Phi entries) v typed at h is = absurd h
