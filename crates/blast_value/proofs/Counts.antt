-- Bounds on how many gates there are.
use Rattle.blast_value.proofs.Common.{ℕ, zero, suc, ◌+◌, ◌-◌, ◌*◌, ◌^◌, ◌≤◌, max, min, Bool, true, false, nat_lt, if◌then◌else◌, arith, mul-le-mul_left, mul-le-mul, Shl, LShr, AShr, Trunc, ZExt, SExt, Abs, CtPop, CtLz, CtTz, stages, shift_gates, stages-least, product_gates, count_gates, Instruction, Binary, Compare, Select, Convert, gates_of, bound, GatesAreFew}
use Rattle.ops.specs.declared.opcode.Opcode.TheVariants.{Add, Sub, Mul, UDiv, SDiv, URem, SRem, And, Or, Xor, UMin, UMax, SMin, SMax}
use Rattle.blast_value.specs.declared.instruction.Instruction.TheVariants.{Unary}

step-le : (n k : ℕ) (b : Bool) → k ≤ n → (if b then k else k + 1) ≤ suc n
step-le n k true h = omega arith
step-le n k false h = omega arith

-- a shift has no more stages than bits, and no more than six up to 64 bits
pub stages-le : (n : ℕ) → stages n ≤ n
unfolding stages
stages-le zero = omega arith
stages-le (suc n) = step-le n (stages n) (nat_lt n (2 ^ stages n)) (stages-le n)

pub stages-few : (n : ℕ) → n ≤ 64 → stages n ≤ 6
stages-few n h = stages-least n 6 h

pub shift-few : (n : ℕ) → n ≤ 64 → shift_gates n n ≤ 8 * n
shift-few n h =
    let few : min (stages n) n ≤ 6 = omega (arith, stages-few n h) in
    omega (arith, mul-le-mul_left n few)

pub digits-few : (n : ℕ) → n ≤ 64 → stages (n + 1) ≤ 7
digits-few n h = stages-least (n + 1) 7 (omega arith)

pub count-few : (n : ℕ) → n ≤ 64 → count_gates n ≤ 35 * n
count-few n h = omega (arith, mul-le-mul_left n (digits-few n h))

product-few : (n : ℕ) → product_gates n ≤ 3 * (n * n) + 5 * n
product-few n = let fewer : n - 1 ≤ n = omega arith in omega (arith, mul-le-mul_left (3 * n) fewer)

square_mono : (n k : ℕ) → n ≤ k → n * n ≤ k * k
square_mono n k h = mul-le-mul h h

few_at : (what : Instruction) (n m k : ℕ) → 1 ≤ n → n ≤ 64 → n ≤ k → m ≤ k → gates_of what n m ≤ bound what k
few_at (Binary Add flags) n m k some low h g = omega arith
few_at (Binary Sub flags) n m k some low h g = omega arith
few_at (Binary Mul flags) n m k some low h g = omega (arith, product-few n, square_mono n k h)
few_at (Binary UDiv flags) n m k some low h g = omega (arith, square_mono n k h)
few_at (Binary SDiv flags) n m k some low h g = omega (arith, square_mono n k h)
few_at (Binary URem flags) n m k some low h g = omega (arith, square_mono n k h)
few_at (Binary SRem flags) n m k some low h g = omega (arith, square_mono n k h)
few_at (Binary Shl flags) n m k some low h g = omega (arith, shift-few n low)
few_at (Binary LShr flags) n m k some low h g = omega (arith, shift-few n low)
few_at (Binary AShr flags) n m k some low h g = omega (arith, shift-few n low)
few_at (Binary And flags) n m k some low h g = omega arith
few_at (Binary Or flags) n m k some low h g = omega arith
few_at (Binary Xor flags) n m k some low h g = omega arith
few_at (Binary UMin flags) n m k some low h g = omega arith
few_at (Binary UMax flags) n m k some low h g = omega arith
few_at (Binary SMin flags) n m k some low h g = omega arith
few_at (Binary SMax flags) n m k some low h g = omega arith
few_at (Compare pred samesign) n m k some low h g = omega arith
few_at Select n m k some low h g = omega arith
few_at (Convert Trunc flags) n m k some low h g = omega arith
few_at (Convert ZExt flags) n m k some low h g = omega arith
few_at (Convert SExt flags) n m k some low h g = omega arith
few_at (Unary Abs truth) n m k some low h g = omega arith
few_at (Unary CtPop truth) n m k some low h g = omega (arith, count-few n low)
few_at (Unary CtLz truth) n m k some low h g = omega (arith, count-few n low)
few_at (Unary CtTz truth) n m k some low h g = omega (arith, count-few n low)

pub gates_are_few : GatesAreFew
gates_are_few what n m some low some_m low_m = few_at what n m (max n m) some low (omega arith) (omega arith)
