-- `udiv`, `sdiv`, `urem` and `srem` over iN, by whole numbers (LLVM Language Reference, "Binary Operations").
use Rattle.std.specs.Prelude.{ℕ, ◌/◌, ◌%◌, Bool, if◌then◌else◌, not, ◌&&◌, ◌||◌, ◌==◌}
use Rattle.std.specs.Prelude.{ℤ, pos, neg_ℤ, ◌-ℤ◌, ◌*ℤ◌, unsigned_abs}
use Rattle.std.specs.Bool.{xor}
use Rattle.std.specs.Int.{is_negative}
use Rattle.ops.specs.declared.value.Value.{Value}
use Rattle.ops.specs.declared.value.Value.TheVariants.{Poison, Bits}
use Rattle.ops.specs.declared.value.Effect.{Effect}
use Rattle.ops.specs.declared.value.Effect.TheVariants.{Undefined, Gives}
use Rattle.ops.specs.declared.opcode.Flags.{Flags}
use Rattle.ops.specs.Integer.{bits, signed, minus_one, least, residue}

-- m divides n
abbrev pub divides : ℕ → ℕ → Bool
divides m n = n % m == 0

-- the quotient rounded towards zero: the floor quotient of the absolute values, negative where just one of y and z is
abbrev pub quotient : ℤ → ℤ → ℤ
quotient y z =
    let q = unsigned_abs y / unsigned_abs z in
    if xor (is_negative y) (is_negative z) then neg_ℤ (pos q) else pos q

-- the dividend less quotient times divisor: it has the sign of the dividend
abbrev pub remainder : ℤ → ℤ → ℤ
remainder y z = y -ℤ quotient y z *ℤ z

-- the signed numbers have no quotient in iN: b is 0, or a is the least number and b is -1
abbrev pub has_no_quotient : ℕ → ℕ → ℕ → Bool
has_no_quotient N a b = b == 0 || (b == minus_one N && a == least N)

-- v, but poison where the flag exact is set and the division leaves a remainder
abbrev pub exactly : Flags → Bool → Value → Value
exactly flags divided v = if flags.exact && not divided then Poison else v

-- "udiv": the floor quotient
unfoldable pub udiv : Flags → ℕ → ℕ → ℕ → Effect
udiv flags N a b = if b == 0 then Undefined else Gives (exactly flags (divides b a) (bits N (a / b)))

-- "sdiv": the quotient of the signed numbers
unfoldable pub sdiv : Flags → ℕ → ℕ → ℕ → Effect
sdiv flags N a b =
    let y = signed N a in
    let z = signed N b in
    if has_no_quotient N a b
    then Undefined
    else Gives (exactly flags (divides (unsigned_abs z) (unsigned_abs y)) (bits N (residue N (quotient y z))))

-- "urem": the remainder
unfoldable pub urem : ℕ → ℕ → ℕ → Effect
urem N a b = if b == 0 then Undefined else Gives (bits N (a % b))

-- "srem": the remainder of the signed numbers
unfoldable pub srem : ℕ → ℕ → ℕ → Effect
srem N a b = if has_no_quotient N a b then Undefined else Gives (bits N (residue N (remainder (signed N a) (signed N b))))

-- the effect of `udiv` or `urem` by b where an operand is poison: undefined behaviour where b is poison or 0
abbrev pub unsigned_poison : Value → Effect
unsigned_poison Poison = Undefined
unsigned_poison (Bits b) = if b.number == 0 then Undefined else Gives Poison

-- the effect of `sdiv` or `srem`: undefined behaviour where b is poison, 0 or -1. (That it is so for -1 is this
-- project's own choice: the least number may stand in place of poison, so that otherwise a value in its place could
-- bring undefined behaviour.)
abbrev pub signed_poison : ℕ → Value → Effect
signed_poison N Poison = Undefined
signed_poison N (Bits b) = if b.number == 0 || b.number == minus_one N then Undefined else Gives Poison
