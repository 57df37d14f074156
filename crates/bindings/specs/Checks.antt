-- Parts of the definition of a match, in the form in which the code checks them.
use Rattle.std.specs.Prelude.{◌≡◌, ℕ, ◌-◌, Bool, length, Some, slice_get}
use Rattle.ir_core.specs.Checks.{IsInst}
use Rattle.ir_core.specs.Reads.{Read, IsRead}
use Rattle.ir_core.specs.declared.function.Function.{Function}
use Rattle.ir_core.specs.declared.instruction.Inst.{Inst}
use Rattle.ir_core.specs.declared.operand.Operand.{Operand}
use Rattle.ir_core.specs.declared.operand.Register.{Register}
use Rattle.ir_core.specs.declared.operand.Register.TheVariants as registers
use Rattle.rule_core.specs.Positions.{operands_of}
use Rattle.rule_core.specs.declared.rule.Formula.{Formula}
use Rattle.rule_core.specs.declared.rule.Formula.TheVariants as formulas
use Rattle.rule_core.specs.declared.rule.Op.{Op}
use Rattle.rule_core.specs.declared.rule.Operand.{Operand as RuleOperand}
use Rattle.rule_core.specs.declared.rule.Rule.{Rule}
use Rattle.rule_core.specs.declared.rule.Statement.{Statement}
use Rattle.use_counts.specs.Tables.{count_of}
use Rattle.known_bits.specs.declared.words.Known.{Known}
use Rattle.bindings.specs.Known.{FactFollows}
use Rattle.bindings.specs.Match.{IsInScope}
use Rattle.bindings.specs.Operands.{OperandMatches}
use Rattle.bindings.specs.Statements.{IsSameOperation}
use Rattle.bindings.specs.declared.binding.Binding.{Binding}
use Rattle.bindings.specs.declared.facts.FunctionFacts.{FunctionFacts}

-- operand i of the instruction matches that of the operation, if there are both
abbrev pub MatchesAt : Function → Binding → Op → ℕ → ℕ → ℕ → Type 0
MatchesAt f binding op b p i = (o : RuleOperand) (r : Read) → slice_get (operands_of op) i ≡ Some o → IsRead f b p i r → OperandMatches binding o r

-- a register, if it is a result, is that of an instruction in the scope of the binding's root
abbrev pub IsBoundInScope : Bool → Binding → Register → Type 0
IsBoundInScope across binding (registers.Parameter p) = Unit {0}
IsBoundInScope across binding (registers.Result d p) = IsInScope across d p binding.block binding.place

-- What a formula asks of the function is met: the register that it asks one use of, if it does, has one by the counts,
-- and what it says of bits, if it does, is known of them.
abbrev pub IsMet : FunctionFacts → (Operand → Known) → Rule → Binding → Formula → Type 0
IsMet facts known rule binding (formulas.HasOneUse j) = (r : Register) → slice_get binding.statements j ≡ Some r → count_of facts.uses r ≡ 1
IsMet facts known rule binding formula = FactFollows known rule binding formula

-- instruction k of block b is the same operation as the root of the source
pub record IsRootOperation (f : Function) (b k : ℕ) (rule : Rule) : Type 0 where
  pub root : Statement
  pub inst : Inst
  pub is_root : slice_get rule.source (length rule.source - 1) ≡ Some root
  pub is_inst : IsInst f b k inst
  pub operation : IsSameOperation root.op inst.op
