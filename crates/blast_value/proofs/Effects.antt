-- The effects of instructions where operands may be poison.
use Rattle.blast_value.proofs.Common.{◌≡◌, ◌≢◌, ◌==◌, ℕ, zero, suc, ◌+◌, ◌-◌, ◌*◌, ◌%◌, ◌/◌, ◌^◌, ◌<◌, ◌≤◌, ◌⊎◌, Bool, true, false, not, ◌&&◌, ◌||◌, min, max, nat_lt, nat_le, if◌then◌else◌, List, [], ◌∷◌, map, length, get_or, replicate, refl, sym, ap, ◌∙◌, ⊎_elim, arith, bit_and, ℤ, pos, negsuc, neg_ℤ, ◌-ℤ◌, int_le, int_lt, unsigned_abs, cases_lt, nat_tests, ints, pow_pos, mod-eq_of_lt, mod-le, Value, Poison, Effect, Undefined, Gives, Opcode, Flags, Pred, Eq, Ne, Ugt, Uge, Ult, Ule, Sgt, Sge, Slt, Sle, Cast, bits, minus_one, least, signed, residue, fits_unsigned, fits_signed, arithmetic, instruction, on_numbers, on_poison, udiv, sdiv, urem, srem, divides, quotient, comparison, holds, selection, signs_differ, or, conversion, converted, breaks_flags, bit, number_of, fits, remainder_of, Arithmetic, Extreme, smaller, larger, Bitwise, Division, Strict, arithmetic_opcode, extreme, extreme_opcode, bitwise_opcode, bitwise, promises_disjoint, division_opcode, strict_opcode, divided, exact, is_signed, is_negation}
use Rattle.ops.specs.declared.opcode.Opcode.TheVariants as opcodes
use Rattle.ops.specs.Division.{remainder}
use Rattle.circuits.specs.Word as words
use Rattle.circ_muldiv.specs.Division as circuits
use Rattle.blast_value.specs.declared.arithmetic.Arithmetic.TheVariants.{Add, Sub, Mul}
use Rattle.blast_value.specs.declared.extreme.Extreme.TheVariants.{UMin, UMax, SMin, SMax}
use Rattle.blast_value.specs.declared.bitwise.Bitwise.TheVariants.{And, Or, Xor}
use Rattle.blast_value.specs.declared.division.Division.TheVariants.{UDiv, SDiv, URem, SRem}
use Rattle.blast_value.specs.declared.strict.Strict.TheVariants as strict
use Rattle.blast_value.proofs.Numbers.{signed_same, residue-pos, residue-difference}

-- ---- instructions that give poison where an operand is
-- no undefined behaviour, and poison where an operand is or the result at numbers is
pub strict_effect : (undefined poison a b m : Bool) (v : Value) → undefined ≡ false → poison ≡ ((a || b) || m) → (if undefined then Undefined else Gives (if poison then Poison else v)) ≡ Gives (if a || b then Poison else (if m then Poison else v))
strict_effect undefined poison true b m v u p = rw (u, p) refl
strict_effect undefined poison false true m v u p = rw (u, p) refl
strict_effect undefined poison false false m v u p = rw (u, p) refl

pub strict_instruction : (op : Opcode) (flags : Flags) (N l m a b : ℕ) (x y : Bool) (v : Value) → ((w : Value) → on_poison op N w ≡ Gives Poison) → on_numbers op flags N a b ≡ Gives v → l ≡ N → m ≡ N → Gives (if x || y then Poison else v) ≡ instruction op flags N (if x then Poison else bits l a) (if y then Poison else bits m b)
unfolding instruction
strict_instruction op flags N l m a b true y v poison numbers width_a width_b = sym (poison (if y then Poison else bits m b))
strict_instruction op flags N l m a b false true v poison numbers width_a width_b = sym (poison Poison)
strict_instruction op flags N l m a b false false v poison numbers width_a width_b = sym numbers

arithmetic_poison : (op : Arithmetic) (N : ℕ) (w : Value) → on_poison (arithmetic_opcode op) N w ≡ Gives Poison
unfolding on_poison
arithmetic_poison Add N w = refl
arithmetic_poison Sub N w = refl
arithmetic_poison Mul N w = refl

pub arithmetic_numbers : (op : Arithmetic) (flags : Flags) (N a b : ℕ) → on_numbers (arithmetic_opcode op) flags N a b ≡ Gives (arithmetic flags N (exact op (pos a) (pos b)) (exact op (signed N a) (signed N b)))
unfolding on_numbers
arithmetic_numbers Add flags N a b = refl
arithmetic_numbers Sub flags N a b = refl
arithmetic_numbers Mul flags N a b = refl

bitwise_poison : (op : Bitwise) (N : ℕ) (w : Value) → on_poison (bitwise_opcode op) N w ≡ Gives Poison
unfolding on_poison
bitwise_poison And N w = refl
bitwise_poison Or N w = refl
bitwise_poison Xor N w = refl

bitwise_numbers : (op : Bitwise) (flags : Flags) (N a b : ℕ) → on_numbers (bitwise_opcode op) flags N a b ≡ Gives (if promises_disjoint op flags && not (bit_and a b == 0) then Poison else bits N (bitwise op a b))
unfolding on_numbers or
bitwise_numbers And flags N a b = refl
bitwise_numbers Or flags N a b = refl
bitwise_numbers Xor flags N a b = refl

pub bitwise_value : (op : Bitwise) (flags : Flags) (N l n a b : ℕ) (asked poison : Bool) → l ≡ N → n ≡ bitwise op a b → asked ≡ promises_disjoint op flags → poison ≡ (asked && not (bit_and a b == 0)) → Gives (if poison then Poison else bits l n) ≡ on_numbers (bitwise_opcode op) flags N a b
bitwise_value op flags N l n a b asked poison width n_is asked_is poison_is = rw (poison_is, asked_is, width, n_is) (sym (bitwise_numbers op flags N a b))

extreme_poison : (op : Extreme) (N : ℕ) (w : Value) → on_poison (extreme_opcode op) N w ≡ Gives Poison
unfolding on_poison
extreme_poison UMin N w = refl
extreme_poison UMax N w = refl
extreme_poison SMin N w = refl
extreme_poison SMax N w = refl

-- the smaller and the larger by a comparison and a choice, as the circuits have them
lesser : (a b : ℕ) → min a b ≡ (if nat_lt a b then a else b)
lesser a b = grind (arith, nat_tests)

greater : (a b : ℕ) → max a b ≡ (if nat_lt a b then b else a)
greater a b = grind (arith, nat_tests)

umin_is : (flags : Flags) (N a b : ℕ) → on_numbers opcodes.UMin flags N a b ≡ Gives (bits N (smaller false N a b))
unfolding on_numbers
umin_is flags N a b = rw (lesser a b) refl

umax_is : (flags : Flags) (N a b : ℕ) → on_numbers opcodes.UMax flags N a b ≡ Gives (bits N (larger false N a b))
unfolding on_numbers
umax_is flags N a b = rw (greater a b) refl

smin_is : (flags : Flags) (N a b : ℕ) → on_numbers opcodes.SMin flags N a b ≡ Gives (bits N (smaller true N a b))
unfolding on_numbers
smin_is flags N a b = rw (signed_same N a, signed_same N b) refl

smax_is : (flags : Flags) (N a b : ℕ) → on_numbers opcodes.SMax flags N a b ≡ Gives (bits N (larger true N a b))
unfolding on_numbers
smax_is flags N a b = rw (signed_same N a, signed_same N b) refl

extreme_numbers : (op : Extreme) (flags : Flags) (N a b : ℕ) → on_numbers (extreme_opcode op) flags N a b ≡ Gives (bits N (extreme op N a b))
extreme_numbers UMin flags N a b = umin_is flags N a b
extreme_numbers UMax flags N a b = umax_is flags N a b
extreme_numbers SMin flags N a b = smin_is flags N a b
extreme_numbers SMax flags N a b = smax_is flags N a b

pub extreme_value : (op : Extreme) (flags : Flags) (N l n a b : ℕ) (poison : Bool) → l ≡ N → n ≡ extreme op N a b → poison ≡ false → Gives (if poison then Poison else bits l n) ≡ on_numbers (extreme_opcode op) flags N a b
extreme_value op flags N l n a b poison width n_is no_poison = rw (no_poison, width, n_is) (sym (extreme_numbers op flags N a b))

pub strict_poison : (op : Strict) (N : ℕ) (w : Value) → on_poison (strict_opcode op) N w ≡ Gives Poison
unfolding on_poison
strict_poison (strict.Arithmetic op) N w = arithmetic_poison op N w
strict_poison strict.Shl N w = refl
strict_poison strict.LShr N w = refl
strict_poison strict.AShr N w = refl
strict_poison (strict.Bitwise op) N w = bitwise_poison op N w
strict_poison (strict.Extreme op) N w = extreme_poison op N w

-- ---- sums, differences and products
pub exact_signed : (op : Arithmetic) (N a b : ℕ) → exact op (words.signed N a) (words.signed N b) ≡ exact op (signed N a) (signed N b)
exact_signed op N a b = rw (signed_same N a, signed_same N b) refl

pub sum_is : (N a b : ℕ) → (a + b) % 2 ^ N ≡ residue N (exact Add (pos a) (pos b))
sum_is N a b = sym (residue-pos N (a + b))

pub difference_is : (N a b : ℕ) → a < 2 ^ N → b < 2 ^ N → (a + (2 ^ N - b)) % 2 ^ N ≡ residue N (exact Sub (pos a) (pos b))
difference_is N a b below_a below_b = residue-difference N a b below_a below_b

pub product_is : (N a b : ℕ) → (a * b) % 2 ^ N ≡ residue N (exact Mul (pos a) (pos b))
product_is N a b = sym (residue-pos N (a * b))

pub checked_value : (flags : Flags) (N l n : ℕ) (poison wraps wraps_signed : Bool) (u s : ℤ) → l ≡ N → n ≡ residue N u → wraps ≡ (flags.nuw && not (fits false N u)) → wraps_signed ≡ (flags.nsw && not (fits true N s)) → poison ≡ (wraps || wraps_signed) → (if poison then Poison else bits l n) ≡ arithmetic flags N u s
unfolding arithmetic fits_unsigned fits_signed
checked_value flags N l n poison wraps wraps_signed u s width n_is wraps_is signed_is poison_is = rw (poison_is, wraps_is, signed_is, width, n_is) refl

-- ---- comparisons
not_less : (a b : ℕ) → nat_le a b ≡ not (nat_lt b a)
not_less a b = grind (arith, nat_tests)

not_less_signed : (y z : ℤ) → int_le y z ≡ not (int_lt z y)
not_less_signed (pos a) (pos b) = grind (arith, ints, nat_tests)
not_less_signed (pos a) (negsuc b) = grind (arith, ints, nat_tests)
not_less_signed (negsuc a) (pos b) = grind (arith, ints, nat_tests)
not_less_signed (negsuc a) (negsuc b) = grind (arith, ints, nat_tests)

twice : (b : Bool) → b ≡ not (not b)
twice true = refl
twice false = refl

-- the predicate, or what it negates where it is a negation
abbrev pub plain : Pred → ℕ → ℕ → ℕ → Bool
plain pred N a b = if is_negation pred then not (holds pred N a b) else holds pred N a b

pub plain_equal : (pred : Pred) (N a b : ℕ) → (pred ≡ Eq) ⊎ (pred ≡ Ne) → (a == b) ≡ plain pred N a b
unfolding holds
plain_equal pred N a b which = ⊎_elim (λ e. rw e refl) (λ e. rw e (twice (a == b))) which

pub plain_less : (pred : Pred) (N a b : ℕ) → (pred ≡ Ult) ⊎ (pred ≡ Uge) → nat_lt a b ≡ plain pred N a b
unfolding holds
plain_less pred N a b which = ⊎_elim (λ e. rw e refl) (λ e. rw e (twice (nat_lt a b) ∙ ap not (sym (not_less b a)))) which

pub plain_greater : (pred : Pred) (N a b : ℕ) → (pred ≡ Ugt) ⊎ (pred ≡ Ule) → nat_lt b a ≡ plain pred N a b
unfolding holds
plain_greater pred N a b which = ⊎_elim (λ e. rw e refl) (λ e. rw e (twice (nat_lt b a) ∙ ap not (sym (not_less a b)))) which

pub plain_less_signed : (pred : Pred) (N a b : ℕ) → (pred ≡ Slt) ⊎ (pred ≡ Sge) → int_lt (words.signed N a) (words.signed N b) ≡ plain pred N a b
unfolding holds
plain_less_signed pred N a b which =
    rw (signed_same N a, signed_same N b)
    (⊎_elim (λ e. rw e refl) (λ e. rw e (twice (int_lt (signed N a) (signed N b)) ∙ ap not (sym (not_less_signed (signed N b) (signed N a))))) which)

pub plain_greater_signed : (pred : Pred) (N a b : ℕ) → (pred ≡ Sgt) ⊎ (pred ≡ Sle) → int_lt (words.signed N b) (words.signed N a) ≡ plain pred N a b
unfolding holds
plain_greater_signed pred N a b which =
    rw (signed_same N a, signed_same N b)
    (⊎_elim (λ e. rw e refl) (λ e. rw e (twice (int_lt (signed N b) (signed N a)) ∙ ap not (sym (not_less_signed (signed N a) (signed N b))))) which)

one_bit : (b : Bool) → bits 1 (bit b) ≡ bits 1 (if b then 1 else 0)
one_bit true = refl
one_bit false = refl

number_one : {L : Type 0} (value : L → Bool) (l : L) → number_of value (l ∷ []) ≡ bit (value l)
number_one value l = omega arith

pub compared : {L : Type 0} (value : L → Bool) (word : List L) (truth : L) (pred : Pred) (samesign : Bool) (N m a b : ℕ) (undefined poison x y differ : Bool) → word ≡ replicate 1 truth → m ≡ N → undefined ≡ false → poison ≡ ((x || y) || differ) → differ ≡ (samesign && signs_differ N a b) → value truth ≡ holds pred N a b → (if undefined then Undefined else Gives (if poison then Poison else bits (length word) (number_of value word))) ≡ Gives (comparison pred samesign N (if x then Poison else bits N a) (if y then Poison else bits m b))
unfolding comparison
compared value word truth pred samesign N m a b undefined poison true y differ word_is width u p d t = rw (u, p) refl
compared value word truth pred samesign N m a b undefined poison false true differ word_is width u p d t = rw (u, p) refl
compared value word truth pred samesign N m a b undefined poison false false differ word_is width u p d t = rw (u, p, d, word_is, number_one value truth, t, one_bit (holds pred N a b)) refl

-- ---- choices
only : {L : Type 0} (value : L → Bool) (word : List L) (l : L) → length word ≡ 1 → l ≡ get_or word 0 l → number_of value word ≡ bit (value l)
only value [] l width at = absurd (omega arith)
only value (x ∷ []) l width at = rw at (number_one value x)
only value (x ∷ y ∷ word) l width at = absurd (omega arith)

chosen_bits : {L : Type 0} (value : L → Bool) (b : Bool) (yes no : List L) → words.number (if b then map value yes else map value no) ≡ (if b then number_of value yes else number_of value no)
chosen_bits value true on off = refl
chosen_bits value false on off = refl

pub chosen : (condition x y undefined poison c : Bool) (N m n a b k l : ℕ) → undefined ≡ false → poison ≡ (condition || (if c then x else y)) → n ≡ (if c then a else b) → k ≡ bit c → m ≡ N → (if undefined then Undefined else Gives (if poison then Poison else bits N n)) ≡ Gives (selection (if condition then Poison else bits l k) (if x then Poison else bits N a) (if y then Poison else bits m b))
unfolding selection
chosen true x y undefined poison c N m n a b k l u p n_is k_is width = rw (u, p) refl
chosen false x y undefined poison true N m n a b k l u p n_is k_is width = rw (u, p, n_is, k_is) refl
chosen false x y undefined poison false N m n a b k l u p n_is k_is width = rw (u, p, n_is, k_is, width) refl

pub chosen_number : {L : Type 0} (old new : L → Bool) (c : L) (a b word condition : List L) → map new word ≡ (if old c then map old a else map old b) → length condition ≡ 1 → c ≡ get_or condition 0 c → (number_of new word ≡ (if old c then number_of old a else number_of old b)) × (number_of old condition ≡ bit (old c))
chosen_number old new c a b word condition word_is width at = (ap words.number word_is ∙ chosen_bits old (old c) a b, only old condition c width at)

-- ---- casts
pub cast_effect : (cast : Cast) (flags : Flags) (from to a n l : ℕ) (undefined poison x breaks : Bool) → undefined ≡ false → l ≡ to → n ≡ converted cast from to a → breaks ≡ breaks_flags cast flags from to a → poison ≡ (x || breaks) → (if undefined then Undefined else Gives (if poison then Poison else bits l n)) ≡ Gives (conversion cast flags from to (if x then Poison else bits from a))
unfolding conversion
cast_effect cast flags from to a n l undefined poison true breaks u width n_is b p = rw (u, p) refl
cast_effect cast flags from to a n l undefined poison false breaks u width n_is b p = rw (u, p, b, width, n_is) refl

-- ---- divisions
pub quotients : (N a b : ℕ) → circuits.residue N (circuits.quotient (words.signed N a) (words.signed N b)) ≡ residue N (quotient (signed N a) (signed N b))
unfolding residue circuits.residue
quotients N a b = rw (signed_same N a, signed_same N b) refl

pub remainders : (N a b : ℕ) → circuits.residue N (circuits.remainder (words.signed N a) (words.signed N b)) ≡ residue N (remainder (signed N a) (signed N b))
unfolding residue circuits.residue
remainders N a b = rw (signed_same N a, signed_same N b) refl

-- a remainder is 0 modulo 2 ^ N exactly where that of the absolute values is 0
residue-zero : (N r : ℕ) (negative : Bool) → r < 2 ^ N → (residue N (if negative then neg_ℤ (pos r) else pos r) == 0) ≡ (r == 0)
unfolding residue
residue-zero N zero true below = rw (mod-eq_of_lt below) refl
residue-zero N (suc r) true below = let same : r % 2 ^ N ≡ r = mod-eq_of_lt (omega arith) in rw same (grind (arith, nat_tests))
residue-zero N r false below = rw (mod-eq_of_lt below) refl

size-below : (N a : ℕ) → a < 2 ^ N → unsigned_abs (signed N a) < 2 ^ N
unfolding signed
size-below N a below =
    ⊎_elim
    (λ (h : a < 2 ^ (N - 1)). let t : nat_lt a (2 ^ (N - 1)) ≡ true = grind arith in rw t below)
    (λ (h : 2 ^ (N - 1) ≤ a).
    let t : nat_lt a (2 ^ (N - 1)) ≡ false = grind arith in
    let some = pow_pos (N - 1) in
    let z : pos a -ℤ pos (2 ^ N) ≡ negsuc (2 ^ N - a - 1) = omega (arith, ints) in
    rw (t, z) (omega arith))
    (cases_lt a (2 ^ (N - 1)))

signed_left : (N a b : ℕ) → a < 2 ^ N → (residue N (remainder (signed N a) (signed N b)) == 0) ≡ divides (unsigned_abs (signed N b)) (unsigned_abs (signed N a))
signed_left N a b below =
    let r = unsigned_abs (signed N a) % unsigned_abs (signed N b) in
    let small : r < 2 ^ N = omega (arith, size-below N a below, mod-le (unsigned_abs (signed N a)) (unsigned_abs (signed N b))) in
    rw (remainder_of (signed N a) (signed N b)) (residue-zero N r (int_lt (signed N a) (pos 0)) small)

pub quotient_value : (op : Division) (flags : Flags) (N a b l q r : ℕ) (negative poison : Bool) → (op ≡ UDiv) ⊎ (op ≡ SDiv) → a < 2 ^ N → l ≡ N → negative ≡ is_signed op → q ≡ (if negative then residue N (quotient (signed N a) (signed N b)) else a / b) → r ≡ (if negative then residue N (remainder (signed N a) (signed N b)) else a % b) → poison ≡ (flags.exact && not (r == 0)) → (if poison then Poison else bits l q) ≡ divided op flags N a b
quotient_value op flags N a b l q r negative poison which below width negative_is q_is r_is poison_is =
    ⊎_elim
    (λ (e : op ≡ UDiv). rw (poison_is, r_is, q_is, negative_is, width, e) refl)
    (λ (e : op ≡ SDiv). rw (poison_is, r_is, q_is, negative_is, width, e, signed_left N a b below) refl)
    which

-- The effect of a division where an operand may be poison, from the tests of its numbers: whether the divisor is 0,
-- and, if signed, whether it is -1 and the dividend the least number.
unsigned_effect : (x y by_zero : Bool) (v : Value) → Effect
unsigned_effect x true by_zero v = Undefined
unsigned_effect true false by_zero v = if by_zero then Undefined else Gives Poison
unsigned_effect false false by_zero v = if by_zero then Undefined else Gives v

signed_effect : (x y by_zero minus low : Bool) (v : Value) → Effect
signed_effect x true by_zero minus low v = Undefined
signed_effect true false by_zero minus low v = if by_zero || minus then Undefined else Gives Poison
signed_effect false false by_zero minus low v = if by_zero || (minus && low) then Undefined else Gives v

unsigned_tests : (x y by_zero minus low m : Bool) (v w : Value) → (by_zero ≡ false → (if m then Poison else w) ≡ v) → (if (y || by_zero) || (false && (minus && (x || low))) then Undefined else Gives (if x || m then Poison else w)) ≡ unsigned_effect x y by_zero v
unfolding unsigned_effect
unsigned_tests x true by_zero minus low m v w is = refl
unsigned_tests true false true minus low m v w is = refl
unsigned_tests true false false minus low m v w is = refl
unsigned_tests false false true minus low m v w is = refl
unsigned_tests false false false minus low m v w is = ap Gives (is refl)

signed_tests : (x y by_zero minus low m : Bool) (v w : Value) → (by_zero ≡ false → (if m then Poison else w) ≡ v) → (if (y || by_zero) || (true && (minus && (x || low))) then Undefined else Gives (if x || m then Poison else w)) ≡ signed_effect x y by_zero minus low v
unfolding signed_effect
signed_tests x true by_zero minus low m v w is = refl
signed_tests x false true minus low m v w is = elim x as (λ x. Undefined ≡ signed_effect x false true minus low v) [ true ↦ refl | false ↦ refl ]
signed_tests true false false true low m v w is = refl
signed_tests true false false false low m v w is = refl
signed_tests false false false true true m v w is = refl
signed_tests false false false true false m v w is = ap Gives (is refl)
signed_tests false false false false low m v w is = ap Gives (is refl)

-- the effects of the instructions that divide are these
unsigned_instruction : (op : Division) (flags : Flags) (N a b : ℕ) (x y : Bool) → is_signed op ≡ false → unsigned_effect x y (b == 0) (divided op flags N a b) ≡ instruction (division_opcode op) flags N (if x then Poison else bits N a) (if y then Poison else bits N b)
unfolding unsigned_effect instruction on_numbers on_poison udiv urem
unsigned_instruction UDiv flags N a b true true e = refl
unsigned_instruction UDiv flags N a b false true e = refl
unsigned_instruction UDiv flags N a b true false e = refl
unsigned_instruction UDiv flags N a b false false e = refl
unsigned_instruction URem flags N a b true true e = refl
unsigned_instruction URem flags N a b false true e = refl
unsigned_instruction URem flags N a b true false e = refl
unsigned_instruction URem flags N a b false false e = refl
unsigned_instruction SDiv flags N a b x y e = cc
unsigned_instruction SRem flags N a b x y e = cc

signed_instruction : (op : Division) (flags : Flags) (N a b : ℕ) (x y : Bool) → is_signed op ≡ true → signed_effect x y (b == 0) (b == minus_one N) (a == least N) (divided op flags N a b) ≡ instruction (division_opcode op) flags N (if x then Poison else bits N a) (if y then Poison else bits N b)
unfolding signed_effect instruction on_numbers on_poison sdiv srem
signed_instruction SDiv flags N a b true true e = refl
signed_instruction SDiv flags N a b false true e = refl
signed_instruction SDiv flags N a b true false e = refl
signed_instruction SDiv flags N a b false false e = refl
signed_instruction SRem flags N a b true true e = refl
signed_instruction SRem flags N a b false true e = refl
signed_instruction SRem flags N a b true false e = refl
signed_instruction SRem flags N a b false false e = refl
signed_instruction UDiv flags N a b x y e = cc
signed_instruction URem flags N a b x y e = cc

nonzero : (b : ℕ) → (b == 0) ≡ false → b ≢ 0
nonzero b e is = absurd (grind (arith, nat_tests))

division_cases : (op : Division) (flags : Flags) (N a b : ℕ) (x y m negative : Bool) (w : Value) → negative ≡ is_signed op → (b ≢ 0 → (if m then Poison else w) ≡ divided op flags N a b) → (if (y || (b == 0)) || (negative && ((b == minus_one N) && (x || (a == least N)))) then Undefined else Gives (if x || m then Poison else w)) ≡ instruction (division_opcode op) flags N (if x then Poison else bits N a) (if y then Poison else bits N b)
division_cases op flags N a b x y m true w negative_is is =
    signed_tests x y (b == 0) (b == minus_one N) (a == least N) m (divided op flags N a b) w (λ e. is (nonzero b e)) ∙ signed_instruction op flags N a b x y (sym negative_is)
division_cases op flags N a b x y m false w negative_is is =
    unsigned_tests x y (b == 0) (b == minus_one N) (a == least N) m (divided op flags N a b) w (λ e. is (nonzero b e)) ∙ unsigned_instruction op flags N a b x y (sym negative_is)

pub divided_effect : (op : Division) (flags : Flags) (N l k a b : ℕ) (undefined poison x y m negative : Bool) (w : Value) → l ≡ N → k ≡ N → negative ≡ is_signed op → undefined ≡ ((y || (b == 0)) || (negative && ((b == minus_one N) && (x || (a == least N))))) → poison ≡ (x || m) → (b ≢ 0 → (if m then Poison else w) ≡ divided op flags N a b) → (if undefined then Undefined else Gives (if poison then Poison else w)) ≡ instruction (division_opcode op) flags N (if x then Poison else bits l a) (if y then Poison else bits k b)
divided_effect op flags N l k a b undefined poison x y m negative w width_a width_b negative_is u p is =
    rw (u, p, width_a, width_b) (division_cases op flags N a b x y m negative w negative_is is)
