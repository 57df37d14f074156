-- Laws of rewriting.
use Rattle.std.specs.Prelude.{◌≡◌, ℕ, Bool, List, ◌∷◌, Some, slice_get}
use Rattle.ops.specs.declared.value.Value.{Value}
use Rattle.ir_core.specs.Assigned.{IsAssigned}
use Rattle.ir_core.specs.Checks.{IsInst, MeetsChecks}
use Rattle.ir_core.specs.Refines.{Refines}
use Rattle.ir_core.specs.declared.function.Function.{Function}
use Rattle.ir_core.specs.declared.instruction.Inst.{Inst}
use Rattle.ir_core.specs.declared.operand.Register.TheVariants as registers
use Rattle.rule_core.specs.Checks.{IsRule}
use Rattle.rule_core.specs.Valid.{IsValid}
use Rattle.rule_core.specs.declared.rule.Rule.{Rule}
use Rattle.rule_typing.specs.Faults.{HasNoFault}
use Rattle.ir_meaning.specs.Histories.{Moment, IsHistory}
use Rattle.ir_meaning.specs.HistoryLaws.{EquationHolds, NumbersFit}
use Rattle.bindings.specs.Match.{IsMatch}
use Rattle.bindings.specs.declared.binding.Binding.{Binding}
use Rattle.rewriter.specs.Applied.{IsRewritten}

-- At every moment of a run at which a register is assigned that a statement of a match is bound to, in loops too, its
-- equation holds: it holds what its instruction gives on what its operands hold there.
abbrev pub EquationsOfStatementsHold : Type 0
EquationsOfStatementsHold = (across : Bool) (f : Function) (args : List Value) (m : Moment) (before : List Moment) (b k : ℕ) (rule : Rule) (binding : Binding) (j d p : ℕ) (inst : Inst)
    → MeetsChecks f → IsHistory f args (m ∷ before) → IsMatch across f b k rule binding
    → slice_get binding.statements j ≡ Some (registers.Result d p) → IsInst f d p inst
    → IsAssigned f (registers.Result d p) m.block m.place → EquationHolds m.held d p inst

-- Where a rule is valid at the widths at which it matches, the function to which it is applied there refines the old
-- one.
abbrev pub RewrittenFunctionsRefine : Type 0
RewrittenFunctionsRefine = (across : Bool) (f new : Function) (b k : ℕ) (rule : Rule) (binding : Binding)
    → IsRule rule → HasNoFault rule → MeetsChecks f → NumbersFit f
    → IsMatch across f b k rule binding → IsValid rule binding.typing → IsRewritten f binding rule new → Refines f new

-- and, valid or not, it meets the checks of a function
abbrev pub RewrittenFunctionsMeetChecks : Type 0
RewrittenFunctionsMeetChecks = (across : Bool) (f new : Function) (b k : ℕ) (rule : Rule) (binding : Binding)
    → IsRule rule → HasNoFault rule → MeetsChecks f → NumbersFit f
    → IsMatch across f b k rule binding → IsRewritten f binding rule new → MeetsChecks new

-- and its numbers are of their widths
abbrev pub RewrittenNumbersFit : Type 0
RewrittenNumbersFit = (across : Bool) (f new : Function) (b k : ℕ) (rule : Rule) (binding : Binding)
    → IsRule rule → HasNoFault rule → MeetsChecks f → NumbersFit f
    → IsMatch across f b k rule binding → IsRewritten f binding rule new → NumbersFit new
