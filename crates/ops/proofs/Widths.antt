-- The widths that instructions keep.
use Rattle.ops.proofs.Common.{ℕ, zero, suc, ◌^◌, ◌<◌, ◌≤◌, ◌/◌, ◌%◌, Bool, true, false, cond, not, ◌&&◌, nat_le, refl, arith, div-le_self, mod-lt, mod-le, pow_pos, pow_below, and_le_l, or_lt, xor_lt, ℤ, pos, ◌==◌, unsigned_abs, int_div_euclid, Value, Poison, Bits, Undefined, Gives, Opcode, Add, Sub, Mul, UDiv, SDiv, URem, SRem, Shl, LShr, AShr, And, Or, Xor, UMin, UMax, SMin, SMax, Flags, Unary, Abs, CtPop, CtLz, CtTz, Trunc, ZExt, SExt, IsValueOf, IsEffectOf, bits, signed, residue, arithmetic, udiv, sdiv, urem, srem, exactly, divides, quotient, has_no_quotient, shl, lshr, ashr, or, unary, at_number, instruction, on_numbers, on_poison, comparison, selection, holds, conversion, converted, InstructionKeepsWidth, ComparisonIsOneBit, ConversionHasWidth, UnaryKeepsWidth, SelectionKeepsWidth}
use Rattle.ops.proofs.Signed.{residue-lt, absolute-lt}
use Rattle.ops.proofs.BitCounts.{ctpop-most, ctlz-most, cttz-most}

IsValueOf-cond : (N : ℕ) (c : Bool) (v : Value) → IsValueOf N v → IsValueOf N (cond c Poison v)
IsValueOf-cond N true v h = tt
IsValueOf-cond N false v h = h

IsEffectOf-cond : (N : ℕ) (c : Bool) (v : Value) → IsValueOf N v → IsEffectOf N (cond c Undefined (Gives v))
IsEffectOf-cond N true v h = tt
IsEffectOf-cond N false v h = h

IsEffectOf-poison : (N : ℕ) (c : Bool) → IsEffectOf N (cond c Undefined (Gives Poison))
IsEffectOf-poison N c = IsEffectOf-cond N c Poison tt

IsValueOf-arithmetic : (flags : Flags) (N : ℕ) (u s : ℤ) → IsValueOf N (arithmetic flags N u s)
unfolding arithmetic
IsValueOf-arithmetic flags N u s = IsValueOf-cond N _ (bits N _) (refl, residue-lt N u)

IsValueOf-exactly : (N : ℕ) (flags : Flags) (divided : Bool) (n : ℕ) → n < 2 ^ N → IsValueOf N (exactly flags divided (bits N n))
IsValueOf-exactly N flags divided n h = IsValueOf-cond N (flags.exact && not divided) (bits N n) (refl, h)

either_lt : (N : ℕ) (c : Bool) (a b : ℕ) → a < 2 ^ N → b < 2 ^ N → cond c a b < 2 ^ N
either_lt N true a b p q = p
either_lt N false a b p q = q

pub IsEffectOf-on_numbers : (op : Opcode) (flags : Flags) (N a b : ℕ) → a < 2 ^ N → b < 2 ^ N → IsEffectOf N (on_numbers op flags N a b)
unfolding on_numbers udiv sdiv urem srem shl lshr ashr or
IsEffectOf-on_numbers Add flags N a b p q = IsValueOf-arithmetic flags N _ _
IsEffectOf-on_numbers Sub flags N a b p q = IsValueOf-arithmetic flags N _ _
IsEffectOf-on_numbers Mul flags N a b p q = IsValueOf-arithmetic flags N _ _
IsEffectOf-on_numbers UDiv flags N a b p q =
    IsEffectOf-cond N (b == 0) _ (IsValueOf-exactly N flags (divides b a) (a / b) (omega (arith, div-le_self a b)))
IsEffectOf-on_numbers SDiv flags N a b p q =
    let y = signed N a in
    let z = signed N b in
    IsEffectOf-cond N (has_no_quotient N a b) _
    (IsValueOf-exactly N flags (divides (unsigned_abs z) (unsigned_abs y)) (residue N (quotient y z)) (residue-lt N (quotient y z)))
IsEffectOf-on_numbers URem flags N a b p q = IsEffectOf-cond N _ (bits N (a % b)) (refl, omega (arith, mod-le a b))
IsEffectOf-on_numbers SRem flags N a b p q = IsEffectOf-cond N _ (bits N _) (refl, residue-lt N _)
IsEffectOf-on_numbers Shl flags N a b p q = IsValueOf-cond N _ _ (IsValueOf-arithmetic flags N _ _)
IsEffectOf-on_numbers LShr flags N a b p q =
    IsValueOf-cond N (nat_le N b) _ (IsValueOf-exactly N flags (divides (2 ^ b) a) (a / 2 ^ b) (omega (arith, div-le_self a (2 ^ b))))
IsEffectOf-on_numbers AShr flags N a b p q =
    let floor = int_div_euclid (signed N a) (pos (2 ^ b)) in
    IsValueOf-cond N (nat_le N b) _ (IsValueOf-exactly N flags (divides (2 ^ b) a) (residue N floor) (residue-lt N floor))
IsEffectOf-on_numbers And flags N a b p q = (refl, omega (arith, and_le_l a b))
IsEffectOf-on_numbers Or flags N a b p q = IsValueOf-cond N _ (bits N _) (refl, or_lt N a b p q)
IsEffectOf-on_numbers Xor flags N a b p q = (refl, xor_lt N a b p q)
IsEffectOf-on_numbers UMin flags N a b p q = (refl, omega arith)
IsEffectOf-on_numbers UMax flags N a b p q = (refl, omega arith)
IsEffectOf-on_numbers SMin flags N a b p q = (refl, either_lt N _ a b p q)
IsEffectOf-on_numbers SMax flags N a b p q = (refl, either_lt N _ b a q p)

pub IsEffectOf-on_poison : (op : Opcode) (N : ℕ) (b : Value) → IsEffectOf N (on_poison op N b)
unfolding on_poison
IsEffectOf-on_poison UDiv N Poison = tt
IsEffectOf-on_poison UDiv N (Bits b) = IsEffectOf-poison N _
IsEffectOf-on_poison SDiv N Poison = tt
IsEffectOf-on_poison SDiv N (Bits b) = IsEffectOf-poison N _
IsEffectOf-on_poison URem N Poison = tt
IsEffectOf-on_poison URem N (Bits b) = IsEffectOf-poison N _
IsEffectOf-on_poison SRem N Poison = tt
IsEffectOf-on_poison SRem N (Bits b) = IsEffectOf-poison N _
IsEffectOf-on_poison op N b = tt

pub IsEffectOf-instruction : InstructionKeepsWidth
unfolding instruction
IsEffectOf-instruction op flags N (Bits a) (Bits b) p q = IsEffectOf-on_numbers op flags N a.number b.number p.1 q.1
IsEffectOf-instruction op flags N (Bits a) Poison p q = IsEffectOf-on_poison op N Poison
IsEffectOf-instruction op flags N Poison b p q = IsEffectOf-on_poison op N b

truth-lt : (c : Bool) → cond c 1 0 < 2 ^ 1
truth-lt true = omega arith
truth-lt false = omega arith

pub IsValueOf-comparison : ComparisonIsOneBit
unfolding comparison
IsValueOf-comparison pred samesign N (Bits a) (Bits b) =
    IsValueOf-cond 1 _ (bits 1 _) (refl, truth-lt (holds pred N a.number b.number))
IsValueOf-comparison pred samesign N (Bits a) Poison = tt
IsValueOf-comparison pred samesign N Poison b = tt

pub IsValueOf-conversion : ConversionHasWidth
unfolding conversion converted
IsValueOf-conversion cast flags from to Poison h p = tt
IsValueOf-conversion Trunc flags from to (Bits a) h p = IsValueOf-cond to _ (bits to _) (refl, mod-lt a.number (pow_pos to))
IsValueOf-conversion ZExt flags from to (Bits a) h p = IsValueOf-cond to _ (bits to _) (refl, omega (arith, p.1, pow_below from to h))
IsValueOf-conversion SExt flags from to (Bits a) h p = IsValueOf-cond to _ (bits to _) (refl, residue-lt to _)

below_pow : (n : ℕ) → n < 2 ^ n
below_pow zero = omega arith
below_pow (suc n) = omega (arith, native.Mathlib.Nat.two-pow-succ n, below_pow n)

-- no count of bits is more than there are, and that is below 2 ^ N
pub count_lt : (N n : ℕ) → n ≤ N → n < 2 ^ N
count_lt N n h = omega (arith, below_pow N)

pub at_number-lt : (op : Unary) (N a : ℕ) → a < 2 ^ N → at_number op N a < 2 ^ N
unfolding at_number
at_number-lt Abs N a h = absolute-lt N a h
at_number-lt CtPop N a h = count_lt N _ (ctpop-most N a h)
at_number-lt CtLz N a h = count_lt N _ (ctlz-most N a h)
at_number-lt CtTz N a h = count_lt N _ (cttz-most N a)

pub IsValueOf-unary : UnaryKeepsWidth
unfolding unary
IsValueOf-unary op truth N Poison p = tt
IsValueOf-unary op truth N (Bits a) p = IsValueOf-cond N _ (bits N _) (refl, at_number-lt op N a.number p.1)

selected : (N : ℕ) (c : Bool) (a b : Value) → IsValueOf N a → IsValueOf N b → IsValueOf N (cond c a b)
selected N true a b p q = p
selected N false a b p q = q

pub IsValueOf-selection : SelectionKeepsWidth
unfolding selection
IsValueOf-selection N Poison a b p q = tt
IsValueOf-selection N (Bits c) a b p q = selected N _ a b p q
