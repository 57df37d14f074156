-- The instructions that may be drawn are binary operations whose left operand is the register x.
use Rattle.load_gen.proofs.Common.{◌≡◌, ℕ, ◌/◌, ◌^◌, ◌<◌, ◌≤◌, ◌==◌, Bool, true, false, if◌then◌else◌, refl, arith, pow_pos, mod-lt, pow_mono, no_flags, minus_one, Opcode, Add, Sub, Mul, UDiv, Shl, And, Xor, Op, Binary, Operand, next_state, drawn, number, operation}

-- a drawn number is below the count
pub drawn_below : (s k : ℕ) → 0 < k → drawn s k < k
unfolding drawn
drawn_below s k some = mod-lt (next_state s / 2 ^ 33) some

-- an operation on x and an operand of which Q holds
pub record IsOn (Q : Operand → Type 0) (x : Operand) (o : Op) : Type 0 where
  pub opcode : Opcode
  pub second : Operand
  pub is : o ≡ Binary opcode no_flags x second
  pub holds : Q second

on : (Q : Operand → Type 0) (x : Operand) (opcode : Opcode) (y : Operand) → Q y → IsOn Q x (Binary opcode no_flags x y)
on Q x opcode y q = record { opcode = opcode; second = y; is = refl; holds = q }

either : (P : Op → Type 0) (c : Bool) (o p : Op) → P o → P p → P (if c then o else p)
either P true o p h k = h
either P false o p h k = k

-- where Q holds of both registers and of each number of iW
module _ (Q : Operand → Type 0) (W : ℕ) (x y : Operand)
    (wide : 3 ≤ W) (qx : Q x) (qy : Q y) (qn : (n : ℕ) → n < 2 ^ W → Q (number W n)) where
  small : (n : ℕ) → n < 8 → Q (number W n)
  small n h = let least : 2 ^ 3 ≤ 2 ^ W = pow_mono wide in qn n (omega arith)

  ones : Q (number W (minus_one W))
  ones = let some = pow_pos W in qn (minus_one W) (omega arith)

  pub operation_is : (d : ℕ) → IsOn Q x (operation d W x y)
  operation_is d =
      either (IsOn Q x) (d == 0) _ _ (on Q x Add (number W 0) (small 0 (omega arith)))
      (either (IsOn Q x) (d == 1) _ _ (on Q x Add y qy)
      (either (IsOn Q x) (d == 2) _ _ (on Q x Sub y qy)
      (either (IsOn Q x) (d == 3) _ _ (on Q x Mul (number W 2) (small 2 (omega arith)))
      (either (IsOn Q x) (d == 4) _ _ (on Q x And x qx)
      (either (IsOn Q x) (d == 5) _ _ (on Q x Xor (number W (minus_one W)) ones)
      (either (IsOn Q x) (d == 6) _ _ (on Q x UDiv (number W 1) (small 1 (omega arith)))
      (either (IsOn Q x) (d == 7) _ _ (on Q x Add (number W 3) (small 3 (omega arith)))
      (on Q x Shl (number W 1) (small 1 (omega arith))))))))))
