-- What the tests know of a function and of a rule that were read.
use Rattle.std.specs.Prelude.{◌-◌, ◌<◌, ◌^◌, length, All}
use Rattle.ir_core.specs.Checks.{MeetsChecks}
use Rattle.ir_core.specs.declared.function.Function.{Function}
use Rattle.ir_text.specs.Forms.{FunctionHasForms}
use Rattle.rule_core.specs.Checks.{IsRule}
use Rattle.rule_core.specs.declared.rule.Rule.{Rule}
use Rattle.rule_typing.specs.Classes.{IsClassified}
use Rattle.rule_typing.specs.Faults.{HasNoFault}

-- a function that was read, whose sizes fit 32 bits even after a rewrite
pub record FunctionIsReady (f : Function) : Type 0 where
  pub checks : MeetsChecks f
  pub forms : FunctionHasForms f
  pub blocks : length f.blocks < 2 ^ 32
  pub insts : All (λ b. length b.insts < 2 ^ 32 - 32) f.blocks

-- a rule that was read
pub record RuleIsReady (rule : Rule) : Type 0 where
  pub checks : IsRule rule
  pub classes : IsClassified rule
  pub typed : HasNoFault rule
