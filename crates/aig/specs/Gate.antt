-- Proper gates: in normal form, so that none can be folded to a literal by its operands alone.
use Rattle.std.specs.Prelude.{◌≡◌, ◌≢◌, ◌<◌, false, nat_lt, if◌then◌else◌}
use Rattle.aig.specs.declared.literal.Node.{Node}
use Rattle.aig.specs.declared.literal.Node.TheVariants.{One}
use Rattle.aig.specs.declared.gate.Gate.{Gate}
use Rattle.aig.specs.declared.gate.Gate.TheVariants.{And, Xor, Mux}
use Rattle.aig.specs.Literal.{Literal, code_of}

-- the nodes are apart: neither is the constant, and they are not the same
pub record AreApart (m n : Node) : Type 0 where
  pub first : m ≢ One
  pub second : n ≢ One
  pub differ : m ≢ n

-- The gate is proper: the nodes of its operands are apart, and operands that may be swapped are in the order of their
-- codes. The operands of an `xor`, the condition of a choice and its first arm are not negated.
abbrev pub IsProper : Gate → Type 0
IsProper (And a b) = AreApart a.node b.node × (code_of a < code_of b)
IsProper (Xor a b) = AreApart a.node b.node × (code_of a < code_of b) × (a.negated ≡ false) × (b.negated ≡ false)
IsProper (Mux c a b) =
    AreApart c.node a.node × AreApart c.node b.node × AreApart a.node b.node × (c.negated ≡ false) × (a.negated ≡ false)

-- the `and` gate of both literals, with the operand of the lower code first
abbrev pub ordered_and : Literal → Literal → Gate
ordered_and a b = if nat_lt (code_of a) (code_of b) then And a b else And b a

-- the `xor` gate of both literals, with the operand of the lower code first
abbrev pub ordered_xor : Literal → Literal → Gate
ordered_xor a b = if nat_lt (code_of a) (code_of b) then Xor a b else Xor b a
