-- The line of an outcome.
use Rattle.std.specs.Prelude.{ℕ, List, ◌++◌, codes, decimal}
use Rattle.ops.specs.declared.value.Value.{Value}
use Rattle.ops.specs.declared.value.Value.TheVariants.{Poison, Bits}
use Rattle.ir_core.specs.declared.outcome.Outcome.{Outcome}
use Rattle.ir_core.specs.declared.outcome.Outcome.TheVariants as outcomes
use Rattle.ir_printer.specs.NumberText.{number_text}

-- a value as a literal
abbrev pub value_text : Value → List ℕ
value_text Poison = codes "poison"
value_text (Bits n) = number_text n

-- the line of an outcome
abbrev pub outcome_text : Outcome → List ℕ
outcome_text (outcomes.Return v) = codes "return " ++ value_text v ++ codes "\n"
outcome_text outcomes.Undefined = codes "undefined\n"
outcome_text (outcomes.Running b) = codes "running block " ++ decimal b ++ codes "\n"
