-- The law of modules that are written.
use Rattle.std.specs.Prelude.{ℕ, Bool, List}
use Rattle.ir_core.specs.declared.module.Module.{Module}
use Rattle.command_line.specs.declared.command.OptimiseOptions.{OptimiseOptions}
use Rattle.verdict.specs.Rule.{Rule}
use Rattle.verdict_core.specs.declared.verdicts.Row.{Row}
use Rattle.run_text.specs.OutcomeLaws.{ModuleHasOutcomes}
use Rattle.alive_top.specs.Optimised.{IsOptimised}

-- each function of a module that `optimise` writes has an outcome at all arguments, for every bound on the blocks
-- entered
abbrev pub ModulesWrittenHaveOutcomes : Type 0
ModulesWrittenHaveOutcomes = (rules : List Rule) (options : OptimiseOptions) (bytes : List ℕ) (new : Module) (table : List Row) (counts : List ℕ) (limited : List Bool)
    → IsOptimised rules options bytes new table counts limited → ModuleHasOutcomes new
