-- The operands of instructions and terminators, without widths and places.
use Rattle.std.specs.Prelude.{List, [], ◌∷◌, map}
use Rattle.ir_core.specs.declared.instruction.Op.{Op}
use Rattle.ir_core.specs.declared.instruction.Op.TheVariants.{Binary, Compare, Unary, Select, Convert, Freeze, Phi}
use Rattle.ir_core.specs.declared.operand.Operand.{Operand}
use Rattle.ir_core.specs.declared.terminator.Terminator.{Terminator}
use Rattle.ir_core.specs.declared.terminator.Terminator.TheVariants as terminators

abbrev pub operands_of : Op → List Operand
operands_of (Binary op flags x y) = x ∷ y ∷ []
operands_of (Compare pred samesign compared x y) = x ∷ y ∷ []
operands_of (Unary op truth x) = x ∷ []
operands_of (Select c x y) = c ∷ x ∷ y ∷ []
operands_of (Convert cast flags from x) = x ∷ []
operands_of (Freeze x) = x ∷ []
operands_of (Phi entries) = map (λ e. e.0) entries

abbrev pub operands_at_end : Terminator → List Operand
operands_at_end (terminators.Return a) = a ∷ []
operands_at_end (terminators.Jump to) = []
operands_at_end (terminators.Branch c to other) = c ∷ []
operands_at_end (terminators.Switch a width other cases) = a ∷ []
operands_at_end terminators.Unreachable = []
