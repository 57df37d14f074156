-- What has to be bound so that the target of a rule can be inserted; and the operations of its instructions.
use Rattle.std.specs.Prelude.{◌≡◌, ℕ, ◌<◌, List, length, Option, None, Some}
use Rattle.ir_core.specs.declared.instruction.Op.{Op as PutOp}
use Rattle.ir_core.specs.declared.instruction.Op.TheVariants as ops
use Rattle.ir_core.specs.declared.operand.Operand.{Operand as PutOperand}
use Rattle.rule_core.specs.Checks.{TargetMayRead}
use Rattle.rule_core.specs.Typing.{IsTyping}
use Rattle.rule_core.specs.Valid.{ConstantsFit}
use Rattle.rule_core.specs.declared.rule.Op.{Op}
use Rattle.rule_core.specs.declared.rule.Op.TheVariants.{Binary, Compare, Unary, Select, Convert, Freeze, Copy}
use Rattle.rule_core.specs.declared.rule.Operand.{Operand}
use Rattle.rule_core.specs.declared.rule.Rule.{Rule}
use Rattle.rule_core.specs.declared.rule.Statement.{Statement}
use Rattle.bindings.specs.declared.binding.Binding.{Binding}
use Rattle.rewriter.specs.Put.{class_width, operand_put}

-- each statement of the source, each input, each constant and each class is bound
pub record IsBound (rule : Rule) (binding : Binding) : Type 0 where
  pub statements : length binding.statements ≡ length rule.source
  pub inputs : length binding.inputs ≡ length rule.inputs
  pub typing : IsTyping rule binding.typing
  pub constants : ConstantsFit rule binding.typing binding.constants

module _ (rule : Rule) (binding : Binding) where
  -- what target statement k reads is bound
  pub record OperandIsReady (k : ℕ) (o : Operand) : Type 0 where
    pub class : o.class < length binding.typing
    pub value : TargetMayRead rule k o.value

  abbrev pub OpIsReady : ℕ → Op → Type 0
  OpIsReady k (Binary opcode flags a b) = OperandIsReady k a × OperandIsReady k b
  OpIsReady k (Compare pred samesign a b) = OperandIsReady k a × OperandIsReady k b
  OpIsReady k (Unary op truth a) = OperandIsReady k a
  OpIsReady k (Select c a b) = OperandIsReady k c × OperandIsReady k a × OperandIsReady k b
  OpIsReady k (Convert cast flags a to) = OperandIsReady k a
  OpIsReady k (Freeze a j) = OperandIsReady k a
  OpIsReady k (Copy a) = OperandIsReady k a

  pub record StatementIsReady (k : ℕ) (s : Statement) : Type 0 where
    pub class : s.class < length binding.typing
    pub op : OpIsReady k s.op

  -- the operation of a target statement's instruction, given operands for the target's registers: none for a copy
  abbrev pub op_put : List PutOperand → Op → Option PutOp
  op_put results (Binary opcode flags a b) = Some (ops.Binary opcode flags (operand_put rule binding results a) (operand_put rule binding results b))
  op_put results (Compare pred samesign a b) = Some (ops.Compare pred samesign (class_width rule binding a.class) (operand_put rule binding results a) (operand_put rule binding results b))
  op_put results (Unary op truth a) = Some (ops.Unary op truth (operand_put rule binding results a))
  op_put results (Select c a b) = Some (ops.Select (operand_put rule binding results c) (operand_put rule binding results a) (operand_put rule binding results b))
  op_put results (Convert cast flags a to) = Some (ops.Convert cast flags (class_width rule binding a.class) (operand_put rule binding results a))
  op_put results (Freeze a k) = Some (ops.Freeze (operand_put rule binding results a))
  op_put results (Copy a) = None
