-- What the operands of a rule's source may stand for, where its names are bound.
use Rattle.std.specs.Prelude.{◌≡◌, ℕ, if◌then◌else◌, Some, slice_get}
use Rattle.ops.specs.Integer.{residue}
use Rattle.ops.specs.Number.{Number}
use Rattle.ops.specs.Value.{IsValueOf}
use Rattle.ops.specs.declared.value.Value.TheVariants.{Bits}
use Rattle.ir_core.specs.Reads.{Read}
use Rattle.ir_core.specs.declared.operand.Operand.{Operand}
use Rattle.ir_core.specs.declared.operand.Operand.TheVariants as operands
use Rattle.ir_core.specs.declared.operand.Register.{Register}
use Rattle.rule_core.specs.declared.rule.Argument.{Argument}
use Rattle.rule_core.specs.declared.rule.Argument.TheVariants as arguments
use Rattle.rule_core.specs.declared.rule.Operand.{Operand as RuleOperand}
use Rattle.rule_core.specs.declared.rule.Register.TheVariants as names
use Rattle.bindings.specs.declared.binding.Binding.{Binding}

-- An argument of the source may stand for an operand that an instruction reads at the width N. An input stands for the
-- operand that it is bound to, a temporary for its register, and a constant for its number, which is one of iN. A
-- literal stands for the same number modulo 2^N, `true` and `false` for the numbers of i1, and `undef` for `undef`.
abbrev pub StandsFor : Binding → ℕ → Argument → Operand → Type 0
StandsFor binding N (arguments.Register (names.Input i)) a = slice_get binding.inputs i ≡ Some a
StandsFor binding N (arguments.Register (names.Source j)) a = (r : Register) × (slice_get binding.statements j ≡ Some r) × (a ≡ operands.Register r)
StandsFor binding N (arguments.Register (names.Target j)) a = ⊥
StandsFor binding N (arguments.Literal z) a = a ≡ operands.Number (record { width = N; number = residue N z })
StandsFor binding N (arguments.Truth b) a = a ≡ operands.Number (record { width = 1; number = (if b then 1 else 0) })
StandsFor binding N (arguments.Constant k) a = (n : Number) × (slice_get binding.constants k ≡ Some n) × IsValueOf N (Bits n) × (a ≡ operands.Number n)
StandsFor binding N (arguments.Undef k) a = a ≡ operands.Undef
StandsFor binding N (arguments.Term n) a = ⊥

-- an operand of the source matches an operand that is read, and its class has that one's width
pub record OperandMatches (binding : Binding) (o : RuleOperand) (r : Read) : Type 0 where
  pub width : slice_get binding.typing o.class ≡ Some r.width
  pub value : StandsFor binding r.width o.value r.operand
