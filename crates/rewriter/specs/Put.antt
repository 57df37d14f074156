-- The instructions that a rule inserts in the place of a root that it matches: the statements of its target in order,
-- whose operands are those that the binding gives for what they read.
use Rattle.std.specs.Prelude.{ℕ, ◌+◌, ◌-◌, if◌then◌else◌, Bool, true, false, not, List, [], ◌∷◌, ◌++◌, length, take, count_by, None, slice_get, slice_index, slice_index_or}
use Rattle.std.specs.Option.{option_map_or}
use Rattle.ops.specs.Integer.{residue}
use Rattle.ops.specs.declared.value.Value.{Value}
use Rattle.ops.specs.declared.value.Value.TheVariants as values
use Rattle.ir_core.specs.Names.{Name}
use Rattle.ir_core.specs.declared.instruction.Inst.{Inst}
use Rattle.ir_core.specs.declared.instruction.Op.TheVariants as ops
use Rattle.ir_core.specs.declared.operand.Operand.{Operand}
use Rattle.ir_core.specs.declared.operand.Operand.TheVariants as operands
use Rattle.ir_core.specs.declared.operand.Register.TheVariants as registers
use Rattle.rule_core.specs.Terms.{in_turn, constant_values, value_at}
use Rattle.rule_core.specs.declared.rule.Argument.{Argument}
use Rattle.rule_core.specs.declared.rule.Argument.TheVariants as arguments
use Rattle.rule_core.specs.declared.rule.Op.{Op as RuleOp}
use Rattle.rule_core.specs.declared.rule.Op.TheVariants as rule_ops
use Rattle.rule_core.specs.declared.rule.Operand.{Operand as RuleOperand}
use Rattle.rule_core.specs.declared.rule.Register.TheVariants as names
use Rattle.rule_core.specs.declared.rule.Rule.{Rule}
use Rattle.rule_core.specs.declared.rule.Statement.{Statement}
use Rattle.substitution.specs.declared.rewrite.Rewrite.{Rewrite}
use Rattle.bindings.specs.declared.binding.Binding.{Binding}

-- a value as an operand
abbrev pub literal_of : Value → Operand
literal_of values.Poison = operands.Poison
literal_of (values.Bits n) = operands.Number n

abbrev pub is_copy : RuleOp → Bool
is_copy (rule_ops.Copy a) = true
is_copy op = false

-- how many of these statements become instructions: all but copies
abbrev pub count_put : List Statement → ℕ
count_put statements = count_by (λ s. not (is_copy s.op)) statements

module _ (rule : Rule) (binding : Binding) where
  -- The operand for what the target reads at the width N, given the operands for the target statements before it: a
  -- register of the source or an input as it is bound, and a constant, a constant term or a literal as a number.
  abbrev pub argument_put : List Operand → ℕ → Argument → Operand
  argument_put results N (arguments.Register (names.Input i)) = slice_index_or binding.inputs i operands.Poison
  argument_put results N (arguments.Register (names.Source j)) = option_map_or operands.Register (slice_get binding.statements j) operands.Poison
  argument_put results N (arguments.Register (names.Target j)) = slice_index_or results j operands.Poison
  argument_put results N (arguments.Literal z) = operands.Number (record { width = N; number = residue N z })
  argument_put results N (arguments.Truth b) = operands.Number (record { width = N; number = (if b then 1 else 0) })
  argument_put results N (arguments.Constant k) = option_map_or operands.Number (slice_get binding.constants k) operands.Poison
  argument_put results N (arguments.Undef k) = operands.Undef
  argument_put results N (arguments.Term n) = literal_of (value_at (constant_values binding.typing binding.constants rule) n)

  -- the width of a class
  abbrev pub class_width : ℕ → ℕ
  class_width c = slice_index binding.typing c

  abbrev pub operand_put : List Operand → RuleOperand → Operand
  operand_put results o = argument_put results (class_width o.class) o.value

  -- The operand for the register that a target statement assigns, given those for the statements before it: the
  -- register of its instruction, and for a copy the operand that it copies.
  abbrev pub result_of_op : List Operand → RuleOp → Operand
  result_of_op results (rule_ops.Copy a) = operand_put results a
  result_of_op results op = operands.Register (registers.Result binding.block (binding.place + count_put (take (length results) rule.target)))

  abbrev pub result_put : List Operand → Statement → Operand
  result_put results s = result_of_op results s.op

  -- for each target statement the operand for its register
  abbrev pub results_put : List Operand
  results_put = in_turn result_put [] rule.target

  -- a target statement as instructions with this name: one, and none for a copy
  abbrev pub insts_of_op : Name → ℕ → RuleOp → List Inst
  insts_of_op name N (rule_ops.Binary opcode flags a b) = record { name = name; width = N; op = ops.Binary opcode flags (operand_put results_put a) (operand_put results_put b) } ∷ []
  insts_of_op name N (rule_ops.Compare pred samesign a b) = record { name = name; width = N; op = ops.Compare pred samesign (class_width a.class) (operand_put results_put a) (operand_put results_put b) } ∷ []
  insts_of_op name N (rule_ops.Unary op truth a) = record { name = name; width = N; op = ops.Unary op truth (operand_put results_put a) } ∷ []
  insts_of_op name N (rule_ops.Select c a b) = record { name = name; width = N; op = ops.Select (operand_put results_put c) (operand_put results_put a) (operand_put results_put b) } ∷ []
  insts_of_op name N (rule_ops.Convert cast flags a to) = record { name = name; width = N; op = ops.Convert cast flags (class_width a.class) (operand_put results_put a) } ∷ []
  insts_of_op name N (rule_ops.Freeze a k) = record { name = name; width = N; op = ops.Freeze (operand_put results_put a) } ∷ []
  insts_of_op name N (rule_ops.Copy a) = []

  abbrev pub insts_with : Name → Statement → List Inst
  insts_with name s = insts_of_op name (class_width s.class) s.op

  -- the instructions of target statements in order: unnamed, but for that of the last one, which has the root's name
  abbrev pub insts_put : Name → List Statement → List Inst
  insts_put name [] = []
  insts_put name (s ∷ []) = insts_with name s
  insts_put name (s ∷ t ∷ statements) = insts_with None s ++ insts_put name (t ∷ statements)

  -- what is inserted in the place of the root, which has this name, and the operand that replaces the root's register
  abbrev pub rewrite_of : Name → Rewrite
  rewrite_of name = record { block = binding.block; place = binding.place; put = insts_put name rule.target; result = slice_index_or results_put (length rule.target - 1) operands.Poison }
