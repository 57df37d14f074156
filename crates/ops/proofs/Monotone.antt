-- Instructions are monotone: operands that allow others give an effect, or a value, that allows what those give.
use Rattle.ops.proofs.Common.{ℕ, Bool, true, false, cond, ◌&&◌, ◌||◌, ◌==◌, Value, Poison, Bits, Undefined, Gives, Opcode, UDiv, SDiv, URem, SRem, Flags, Number, AllowsValue, AllowsEffect, minus_one, least, udiv, sdiv, urem, srem, instruction, on_numbers, on_poison, comparison, selection, conversion, unary, InstructionIsMonotone, ComparisonIsMonotone, ConversionIsMonotone, UnaryIsMonotone, SelectionIsMonotone}
use Rattle.ops.proofs.Values.{AllowsValue-refl, AllowsEffect-refl, AllowsEffect-trans}

-- an unsigned division of poison allows one of a number by the same divisor
unsigned_allows : (zero : Bool) (v : Value) → AllowsEffect (cond zero Undefined (Gives Poison)) (cond zero Undefined (Gives v))
unsigned_allows true v = tt
unsigned_allows false v = tt

signed_allows : (zero minus_one least : Bool) (v : Value) → AllowsEffect (cond (zero || minus_one) Undefined (Gives Poison)) (cond (zero || (minus_one && least)) Undefined (Gives v))
signed_allows true minus_one least v = tt
signed_allows false true least v = tt
signed_allows false false least v = tt

poison_dividend : (op : Opcode) (flags : Flags) (N a : ℕ) (b : Number) → AllowsEffect (on_poison op N (Bits b)) (on_numbers op flags N a b.number)
unfolding on_poison on_numbers udiv sdiv urem srem
poison_dividend UDiv flags N a b = unsigned_allows _ _
poison_dividend SDiv flags N a b = signed_allows (b.number == 0) (b.number == minus_one N) (a == least N) _
poison_dividend URem flags N a b = unsigned_allows _ _
poison_dividend SRem flags N a b = signed_allows (b.number == 0) (b.number == minus_one N) (a == least N) _
poison_dividend op flags N a b = tt

-- an operand of poison on the right allows any other
poison_divisor : (op : Opcode) (N : ℕ) (b : Value) → AllowsEffect (on_poison op N Poison) (on_poison op N b)
unfolding on_poison
poison_divisor UDiv N b = tt
poison_divisor op N b = tt

allowed_divisor : (op : Opcode) (N : ℕ) (b b' : Value) → AllowsValue b b' → AllowsEffect (on_poison op N b) (on_poison op N b')
allowed_divisor op N Poison b' h = poison_divisor op N b'
allowed_divisor op N (Bits b) b' h = rw h (AllowsEffect-refl (on_poison op N (Bits b)))

-- what a poison operand gives allows what any other operand does
on_poison-allows : (op : Opcode) (flags : Flags) (N : ℕ) (a b : Value) → AllowsEffect (on_poison op N b) (instruction op flags N a b)
unfolding instruction
on_poison-allows op flags N Poison b = AllowsEffect-refl (on_poison op N b)
on_poison-allows op flags N (Bits a) Poison = AllowsEffect-refl (on_poison op N Poison)
on_poison-allows op flags N (Bits a) (Bits b) = poison_dividend op flags N a.number b

pub instruction-monotone : InstructionIsMonotone
unfolding instruction
instruction-monotone op flags N Poison b a' b' p q =
    AllowsEffect-trans (on_poison op N b) (on_poison op N b') _ (allowed_divisor op N b b' q) (on_poison-allows op flags N a' b')
instruction-monotone op flags N (Bits a) Poison a' b' p q =
    AllowsEffect-trans (on_poison op N Poison) (on_poison op N b') _ (poison_divisor op N b') (on_poison-allows op flags N a' b')
instruction-monotone op flags N (Bits a) (Bits b) a' b' p q = rw (p, q) (AllowsEffect-refl (on_numbers op flags N a.number b.number))

pub comparison-monotone : ComparisonIsMonotone
unfolding comparison
comparison-monotone pred samesign N Poison b a' b' p q = tt
comparison-monotone pred samesign N (Bits a) Poison a' b' p q = tt
comparison-monotone pred samesign N (Bits a) (Bits b) a' b' p q =
    rw (p, q) (AllowsValue-refl (comparison pred samesign N (Bits a) (Bits b)))

pub conversion-monotone : ConversionIsMonotone
unfolding conversion
conversion-monotone cast flags from to Poison a' p = tt
conversion-monotone cast flags from to (Bits a) a' p = rw p (AllowsValue-refl (conversion cast flags from to (Bits a)))

pub unary-monotone : UnaryIsMonotone
unfolding unary
unary-monotone op truth N Poison a' p = tt
unary-monotone op truth N (Bits a) a' p = rw p (AllowsValue-refl (unary op truth N (Bits a)))

chosen : (c : Bool) (a b a' b' : Value) → AllowsValue a a' → AllowsValue b b' → AllowsValue (cond c a b) (cond c a' b')
chosen true a b a' b' p q = p
chosen false a b a' b' p q = q

pub selection-monotone : SelectionIsMonotone
unfolding selection
selection-monotone Poison a b c' a' b' r p q = tt
selection-monotone (Bits c) a b c' a' b' r p q = rw r (chosen _ a b a' b' p q)
