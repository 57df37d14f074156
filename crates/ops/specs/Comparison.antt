-- `icmp` and `select` (LLVM Language Reference, "Other Operations").
use Rattle.std.specs.Prelude.{ℕ, Bool, if◌then◌else◌, not, ◌&&◌, nat_lt, nat_le, ◌==◌, int_lt, int_le}
use Rattle.std.specs.Bool.{xor}
use Rattle.ops.specs.declared.value.Value.{Value}
use Rattle.ops.specs.declared.value.Value.TheVariants.{Poison, Bits}
use Rattle.ops.specs.declared.comparison.Pred.{Pred}
use Rattle.ops.specs.declared.comparison.Pred.TheVariants.{Eq, Ne, Ugt, Uge, Ult, Ule, Sgt, Sge, Slt, Sle}
use Rattle.ops.specs.Integer.{bits, signed, negative}

-- "icmp": the predicate holds of a and b; signed predicates read them in two's complement
unfoldable pub holds : Pred → ℕ → ℕ → ℕ → Bool
holds Eq N a b = a == b
holds Ne N a b = not (a == b)
holds Ugt N a b = nat_lt b a
holds Uge N a b = nat_le b a
holds Ult N a b = nat_lt a b
holds Ule N a b = nat_le a b
holds Sgt N a b = int_lt (signed N b) (signed N a)
holds Sge N a b = int_le (signed N b) (signed N a)
holds Slt N a b = int_lt (signed N a) (signed N b)
holds Sle N a b = int_le (signed N a) (signed N b)

-- the sign bits of a and b differ
abbrev pub signs_differ : ℕ → ℕ → ℕ → Bool
signs_differ N a b = xor (negative N a) (negative N b)

-- the result of icmp: 1 or 0 of i1; poison where an operand is poison, and with samesign where the sign bits differ
unfoldable pub comparison : Pred → Bool → ℕ → Value → Value → Value
comparison pred samesign N (Bits a) (Bits b) =
    if samesign && signs_differ N a.number b.number
    then Poison
    else bits 1 (if holds pred N a.number b.number then 1 else 0)
comparison pred samesign N (Bits a) Poison = Poison
comparison pred samesign N Poison b = Poison

-- "select": a where the condition is 1, and b where it is 0, whatever the other is; poison where the condition is
-- poison
unfoldable pub selection : Value → Value → Value → Value
selection Poison a b = Poison
selection (Bits c) a b = if c.number == 1 then a else b
