-- Identities of truth values.
use Rattle.aig.proofs.Common.{◌≡◌, Bool, true, false, not, ◌&&◌, refl, if◌then◌else◌, xor, beq}

-- xor as a choice
pub xor_choice : (a b : Bool) → xor a b ≡ (if a then not b else b)
unfolding mathlib.Core.Bool.xor
xor_choice true true = refl
xor_choice true false = refl
xor_choice false true = refl
xor_choice false false = refl

pub and_turned : (a b : Bool) → (a && b) ≡ (b && a)
and_turned true true = refl
and_turned true false = refl
and_turned false true = refl
and_turned false false = refl

pub xor_turned : (a b : Bool) → xor a b ≡ xor b a
unfolding mathlib.Core.Bool.xor
xor_turned true true = refl
xor_turned true false = refl
xor_turned false true = refl
xor_turned false false = refl

-- negating both operands leaves an xor as it was
pub xor_signs : (s t p q : Bool) → s ≡ t → xor p q ≡ xor (if s then not p else p) (if t then not q else q)
unfolding mathlib.Core.Bool.xor
xor_signs true true true true e = refl
xor_signs true true true false e = refl
xor_signs true true false true e = refl
xor_signs true true false false e = refl
xor_signs false false p q e = refl
xor_signs true false p q e = absurd (cc)
xor_signs false true p q e = absurd (cc)

-- negating one operand negates an xor
pub xor_one_sign : (s t p q : Bool) → (s ≡ t → ⊥) → not (xor p q) ≡ xor (if s then not p else p) (if t then not q else q)
unfolding mathlib.Core.Bool.xor
xor_one_sign true true p q e = absurd (e refl)
xor_one_sign false false p q e = absurd (e refl)
xor_one_sign true false true true e = refl
xor_one_sign true false true false e = refl
xor_one_sign true false false true e = refl
xor_one_sign true false false false e = refl
xor_one_sign false true true true e = refl
xor_one_sign false true true false e = refl
xor_one_sign false true false true e = refl
xor_one_sign false true false false e = refl

-- `b && !y` is `!(b && y) && b`
pub other_part : (b y : Bool) → (b && not y) ≡ (not (b && y) && b)
other_part true true = refl
other_part true false = refl
other_part false true = refl
other_part false false = refl

pub other_part_turned : (b x : Bool) → (b && not x) ≡ (not (x && b) && b)
other_part_turned true true = refl
other_part_turned true false = refl
other_part_turned false true = refl
other_part_turned false false = refl

-- a choice between a literal and its negation is an xor with the condition
pub xor_arms : (c s t p : Bool) → (s ≡ t → ⊥) → xor c (if t then not p else p) ≡ (if c then (if s then not p else p) else (if t then not p else p))
xor_arms c true true p ne = absurd (ne refl)
xor_arms c false false p ne = absurd (ne refl)
xor_arms true true false p ne = xor_choice true p
xor_arms true false true true ne = xor_choice true false
xor_arms true false true false ne = xor_choice true true
xor_arms false true false p ne = xor_choice false p
xor_arms false false true p ne = xor_choice false (not p)

pub beq_same : (a b : Bool) → beq a b ≡ true → a ≡ b
beq_same true true e = refl
beq_same false false e = refl
beq_same true false e = absurd (cc)
beq_same false true e = absurd (cc)

pub beq_apart : (a b : Bool) → beq a b ≡ false → a ≡ b → ⊥
beq_apart true true e h = absurd (cc)
beq_apart false false e h = absurd (cc)
beq_apart true false e h = cc
beq_apart false true e h = cc
