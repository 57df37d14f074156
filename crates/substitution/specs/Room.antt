-- Indices of registers fit 32 bits also where other instructions have replaced one.
use Rattle.std.specs.Prelude.{◌≡◌, ℕ, ◌+◌, ◌≤◌, ◌^◌, length, All}
use Rattle.ir_core.specs.declared.function.Block.{Block}
use Rattle.ir_core.specs.declared.instruction.Inst.{Inst}
use Rattle.ir_core.specs.declared.instruction.Op.{Op}
use Rattle.ir_core.specs.declared.instruction.Op.TheVariants.{Binary, Compare, Unary, Select, Convert, Freeze, Phi}
use Rattle.ir_core.specs.declared.operand.Operand.{Operand}
use Rattle.ir_core.specs.declared.operand.Operand.TheVariants as operands
use Rattle.ir_core.specs.declared.operand.Register.TheVariants as registers
use Rattle.ir_core.specs.declared.terminator.Terminator.{Terminator}
use Rattle.ir_core.specs.declared.terminator.Terminator.TheVariants as terminators
use Rattle.substitution.specs.Rewritten.{Rewrite}

-- if the operand is a result of the root's block, its index does so with all that is put before it
abbrev pub HasRoom : Rewrite → Operand → Type 0
HasRoom w (operands.Register (registers.Result b k)) = b ≡ w.block → k + length w.put ≤ 2 ^ 32
HasRoom w (operands.Register (registers.Parameter p)) = Unit {0}
HasRoom w (operands.Number n) = Unit {0}
HasRoom w operands.Undef = Unit {0}
HasRoom w operands.Poison = Unit {0}

-- so does that of each register that an operation, a terminator or a block reads
abbrev pub OpHasRoom : Rewrite → Op → Type 0
OpHasRoom w (Binary op flags x y) = HasRoom w x × HasRoom w y
OpHasRoom w (Compare pred samesign width x y) = HasRoom w x × HasRoom w y
OpHasRoom w (Unary op truth x) = HasRoom w x
OpHasRoom w (Select c x y) = HasRoom w c × HasRoom w x × HasRoom w y
OpHasRoom w (Convert cast flags from x) = HasRoom w x
OpHasRoom w (Freeze x) = HasRoom w x
OpHasRoom w (Phi entries) = All (λ (e : Operand × ℕ). HasRoom w e.0) entries

abbrev pub EndHasRoom : Rewrite → Terminator → Type 0
EndHasRoom w (terminators.Return a) = HasRoom w a
EndHasRoom w (terminators.Jump b) = Unit {0}
EndHasRoom w (terminators.Branch c b other) = HasRoom w c
EndHasRoom w (terminators.Switch a width other cases) = HasRoom w a
EndHasRoom w terminators.Unreachable = Unit {0}

pub record BlockHasRoom (w : Rewrite) (block : Block) : Type 0 where
  pub insts : All (λ (i : Inst). OpHasRoom w i.op) block.insts
  pub end : EndHasRoom w block.end
