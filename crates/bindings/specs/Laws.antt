-- The laws of the order of the instructions that a match is bound to.
use Rattle.std.specs.Prelude.{◌≡◌, ℕ, ◌<◌, Bool, Some, Contains, slice_get}
use Rattle.ir_core.specs.Assigned.{IsAssigned}
use Rattle.ir_core.specs.Checks.{IsInst, IsPhi, MeetsChecks}
use Rattle.ir_core.specs.Reads.{Read, IsRead}
use Rattle.ir_core.specs.Walks.{IsReached}
use Rattle.ir_core.specs.declared.function.Function.{Function}
use Rattle.ir_core.specs.declared.instruction.Inst.{Inst}
use Rattle.ir_core.specs.declared.operand.Operand.TheVariants as operands
use Rattle.ir_core.specs.declared.operand.Register.{Register}
use Rattle.ir_core.specs.declared.operand.Register.TheVariants as registers
use Rattle.rule_core.specs.Checks.{IsBeforeRoot, IsRule}
use Rattle.rule_core.specs.Positions.{operands_of}
use Rattle.rule_core.specs.declared.rule.Argument.TheVariants as arguments
use Rattle.rule_core.specs.declared.rule.Operand.{Operand as RuleOperand}
use Rattle.rule_core.specs.declared.rule.Register.{Register as Name}
use Rattle.rule_core.specs.declared.rule.Rule.{Rule}
use Rattle.rule_core.specs.declared.rule.Statement.{Statement}
use Rattle.bindings.specs.Known.{Knowledge, known_in, operand_for}
use Rattle.bindings.specs.Match.{IsMatch, MatchesInAnyOrder}
use Rattle.bindings.specs.declared.binding.Binding.{Binding}

-- In a reached block, an instruction that is no phi stands behind those instructions of the block whose results it
-- reads.
abbrev pub ReadsStandBefore : Type 0
ReadsStandBefore = (f : Function) (b k p i : ℕ) (inst : Inst) (r : Read)
    → MeetsChecks f → IsReached f b → IsInst f b k inst → ¬ IsPhi inst.op
    → IsRead f b k i r → r.operand ≡ operands.Register (registers.Result b p) → p < k

-- What a match is bound to is assigned at its root: the registers of its temporaries, and those of its inputs, wherever
-- they are read. For the root reads from each through a chain of operands of instructions that are no phis, an operand
-- is assigned where it is read, and what is assigned at an instruction is so wherever its result is.
abbrev pub NamedRegistersAreAssigned : Type 0
NamedRegistersAreAssigned = (across : Bool) (known : Knowledge) (f : Function) (b k : ℕ) (rule : Rule) (m : Binding) (name : Name) (r : Register)
    → MeetsChecks f → IsRule rule → MatchesInAnyOrder across known f b k rule m
    → IsBeforeRoot rule name → operand_for m name ≡ Some (operands.Register r) → IsAssigned f r m.block m.place

-- And wherever a register is assigned that a statement is bound to, at the root or elsewhere, so is each one that an
-- operand of the statement is bound to.
abbrev pub OperandsAreAssigned : Type 0
OperandsAreAssigned = (across : Bool) (known : Knowledge) (f : Function) (b k : ℕ) (rule : Rule) (m : Binding) (j : ℕ) (s : Statement) (o : RuleOperand) (name : Name) (r q : Register) (c l : ℕ)
    → MeetsChecks f → IsRule rule → MatchesInAnyOrder across known f b k rule m → slice_get rule.source j ≡ Some s → slice_get m.statements j ≡ Some r
    → Contains (operands_of s.op) o → o.value ≡ arguments.Register name → operand_for m name ≡ Some (operands.Register q)
    → IsAssigned f r c l → IsAssigned f q c l

-- So a rule matches in a function that meets its checks where it matches without regard to the order of instructions.
abbrev pub TemporariesStandBefore : Type 0
TemporariesStandBefore = (across : Bool) (f : Function) (b k : ℕ) (rule : Rule) (m : Binding)
    → MeetsChecks f → IsRule rule → MatchesInAnyOrder across (known_in f) f b k rule m → IsMatch across f b k rule m

-- What a match is bound to, inside a block or across blocks, is an instruction of a block that the entry reaches, and
-- no phi.
abbrev pub MatchedInstsAreReached : Type 0
MatchedInstsAreReached = (across : Bool) (f : Function) (b k : ℕ) (rule : Rule) (m : Binding) (j d p : ℕ) (inst : Inst)
    → IsMatch across f b k rule m → slice_get m.statements j ≡ Some (registers.Result d p) → IsInst f d p inst → IsReached f d × ¬ IsPhi inst.op
