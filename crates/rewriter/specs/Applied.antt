-- A function to which a rule is applied.
use Rattle.std.specs.Prelude.{◌≡◌}
use Rattle.ir_core.specs.Checks.{IsInst}
use Rattle.ir_core.specs.declared.function.Function.{Function}
use Rattle.ir_core.specs.declared.instruction.Inst.{Inst}
use Rattle.rule_core.specs.declared.rule.Rule.{Rule}
use Rattle.substitution.specs.Rewritten.{rewritten_function}
use Rattle.bindings.specs.declared.binding.Binding.{Binding}
use Rattle.rewriter.specs.Put.{rewrite_of}

-- The new function is the old one with the instructions that the rule inserts in the place of its root.
pub record IsRewritten (f : Function) (binding : Binding) (rule : Rule) (new : Function) : Type 0 where
  pub root : Inst
  pub is_root : IsInst f binding.block binding.place root
  pub is : new ≡ rewritten_function (rewrite_of rule binding root.name) f
