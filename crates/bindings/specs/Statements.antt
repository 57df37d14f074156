-- Which instructions the statements of a rule's source match.
use Rattle.std.specs.Prelude.{◌≡◌, ℕ, suc, ◌<◌, List, length, Some, Contains, slice_get}
use Rattle.ops.specs.Flags.{icmp_flags}
use Rattle.ir_core.specs.Checks.{IsInst}
use Rattle.ir_core.specs.Reads.{Read, IsRead}
use Rattle.ir_core.specs.declared.function.Function.{Function}
use Rattle.ir_core.specs.declared.instruction.Inst.{Inst}
use Rattle.ir_core.specs.declared.instruction.Op.{Op}
use Rattle.ir_core.specs.declared.instruction.Op.TheVariants as ops
use Rattle.ir_core.specs.declared.operand.Register.TheVariants as registers
use Rattle.rule_core.specs.Positions.{operands_of, operands_among}
use Rattle.rule_core.specs.TermNodes.{NamesWidth}
use Rattle.rule_core.specs.declared.rule.Argument.{Argument}
use Rattle.rule_core.specs.declared.rule.Argument.TheVariants as arguments
use Rattle.rule_core.specs.declared.rule.Op.{Op as RuleOp}
use Rattle.rule_core.specs.declared.rule.Op.TheVariants as rule_ops
use Rattle.rule_core.specs.declared.rule.Operand.{Operand as RuleOperand}
use Rattle.rule_core.specs.declared.rule.Register.TheVariants as names
use Rattle.rule_core.specs.declared.rule.Rule.{Rule}
use Rattle.rule_core.specs.declared.rule.Statement.{Statement}
use Rattle.rule_core.specs.declared.rule.Term.{Term}
use Rattle.bindings.specs.Operands.{OperandMatches}
use Rattle.bindings.specs.Promises.{by_flags, by_truth, no_promises, AreKept}
use Rattle.bindings.specs.declared.promises.Promises.{Promises}
use Rattle.bindings.specs.declared.binding.Binding.{Binding}

-- both are the same operation: of the same opcode, predicate, intrinsic or cast, or both a select or a freeze
abbrev pub IsSameOperation : RuleOp → Op → Type 0
IsSameOperation (rule_ops.Binary opcode flags a b) (ops.Binary opcode' flags' x y) = opcode ≡ opcode'
IsSameOperation (rule_ops.Compare pred samesign a b) (ops.Compare pred' samesign' width x y) = pred ≡ pred'
IsSameOperation (rule_ops.Unary op truth a) (ops.Unary op' truth' x) = op ≡ op'
IsSameOperation (rule_ops.Select c a b) (ops.Select z x y) = Unit {0}
IsSameOperation (rule_ops.Convert cast flags a to) (ops.Convert cast' flags' from x) = cast ≡ cast'
IsSameOperation (rule_ops.Freeze a j) (ops.Freeze x) = Unit {0}
IsSameOperation s i = ⊥

-- the flags of a statement, and those of an instruction
abbrev pub promises_of_statement : RuleOp → Promises
promises_of_statement (rule_ops.Binary opcode flags a b) = by_flags flags
promises_of_statement (rule_ops.Compare pred samesign a b) = by_flags (icmp_flags samesign)
promises_of_statement (rule_ops.Unary op truth a) = by_truth truth
promises_of_statement (rule_ops.Convert cast flags a to) = by_flags flags
promises_of_statement op = no_promises

abbrev pub promises_of_inst : Op → Promises
promises_of_inst (ops.Binary opcode flags x y) = by_flags flags
promises_of_inst (ops.Compare pred samesign width x y) = by_flags (icmp_flags samesign)
promises_of_inst (ops.Unary op truth x) = by_truth truth
promises_of_inst (ops.Convert cast flags from x) = by_flags flags
promises_of_inst op = no_promises

-- the term of the node has the width of a register that a statement of the source assigns
abbrev pub MeasuresTemporary : List Term → ℕ → Type 0
MeasuresTemporary terms n = (j : ℕ) × NamesWidth terms n (names.Source j)

-- an argument of the target names a register that a statement of the source assigns: it is that register, or its term
-- has the width of one
abbrev pub NamesTemporary : List Term → Argument → Type 0
NamesTemporary terms (arguments.Register (names.Source j)) = Unit {0}
NamesTemporary terms (arguments.Term n) = MeasuresTemporary terms n
NamesTemporary terms argument = ⊥

-- one of these operands does
abbrev pub OneNamesTemporary : List Term → List RuleOperand → Type 0
OneNamesTemporary terms operands = (o : RuleOperand) × Contains operands o × NamesTemporary terms o.value

-- the target names a register that a statement of the source assigns: as an operand, as a copied one, or in `width( )`
abbrev pub TargetNamesTemporary : Rule → Type 0
TargetNamesTemporary rule = OneNamesTemporary rule.terms (operands_among rule.target)

-- instruction k of block b matches source statement j, which is this one
pub record InstMatches (f : Function) (rule : Rule) (binding : Binding) (j : ℕ) (s : Statement) (b k : ℕ) (inst : Inst) : Type 0 where
  -- the root's instruction is the one at which the match is
  pub root : suc j ≡ length rule.source → (b ≡ binding.block) × (k ≡ binding.place)
  -- the same opcode, predicate, intrinsic or cast
  pub operation : IsSameOperation s.op inst.op
  -- it has at least the statement's flags; a temporary's has no others where the target names a temporary
  pub flags : AreKept (promises_of_statement s.op) (promises_of_inst inst.op)
  pub no_more_flags : suc j < length rule.source → TargetNamesTemporary rule → promises_of_inst inst.op ≡ promises_of_statement s.op
  -- the width of the result, and the operands from left to right
  pub width : slice_get binding.typing s.class ≡ Some inst.width
  pub operands : (i : ℕ) (o : RuleOperand) (r : Read) → slice_get (operands_of s.op) i ≡ Some o → IsRead f b k i r → OperandMatches binding o r

-- source statement j is this one, and is bound to an instruction, which it matches
pub record StatementMatches (f : Function) (rule : Rule) (binding : Binding) (j : ℕ) (s : Statement) : Type 0 where
  pub block : ℕ
  pub place : ℕ
  pub inst : Inst
  pub bound : slice_get binding.statements j ≡ Some (registers.Result block place)
  pub is_inst : IsInst f block place inst
  pub matches : InstMatches f rule binding j s block place inst
