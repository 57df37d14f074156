-- Values and effects of LLVM IR, and when one allows another (LLVM Language Reference, "Poison Values", "Undefined
-- Behavior").
use Rattle.std.specs.Prelude.{ℕ, ◌≡◌, ◌<◌, ◌^◌}
use Rattle.ops.specs.declared.value.Value.{Value}
use Rattle.ops.specs.declared.value.Value.TheVariants.{Poison, Bits}
use Rattle.ops.specs.declared.value.Effect.{Effect}
use Rattle.ops.specs.declared.value.Effect.TheVariants.{Undefined, Gives}

-- a register of width N can hold the value: poison has every width
abbrev pub HasWidth : Value → ℕ → Type 0
HasWidth Poison N = Unit {0}
HasWidth (Bits a) N = a.width ≡ N

-- a value of iN: poison, or a number below 2^N
abbrev pub IsValueOf : ℕ → Value → Type 0
IsValueOf N Poison = Unit {0}
IsValueOf N (Bits a) = (a.width ≡ N) × (a.number < 2 ^ N)

-- v' refines v: where a program gives v, another may give v' in its place. Poison allows every value, a number only
-- itself
abbrev pub AllowsValue : Value → Value → Type 0
AllowsValue Poison v' = Unit {0}
AllowsValue (Bits a) v' = v' ≡ Bits a

-- the same of effects: undefined behaviour allows every effect
abbrev pub AllowsEffect : Effect → Effect → Type 0
AllowsEffect Undefined e' = Unit {0}
AllowsEffect (Gives v) Undefined = ⊥
AllowsEffect (Gives v) (Gives v') = AllowsValue v v'

-- an effect of an instruction over iN: undefined behaviour, or a value of iN
abbrev pub IsEffectOf : ℕ → Effect → Type 0
IsEffectOf N Undefined = Unit {0}
IsEffectOf N (Gives v) = IsValueOf N v
