-- What `optimise` writes of the text of a module by the rules of a file.
use Rattle.std.specs.Prelude.{◌≡◌, ◌≤◌, ℕ, Bool, List, ◌++◌}
use Rattle.command_line.specs.Limits.{most_steps}
use Rattle.command_line.specs.declared.command.OptimiseOptions.{OptimiseOptions}
use Rattle.ir_core.specs.declared.module.Module.{Module}
use Rattle.ir_core.specs.Checks.{ModuleMeetsChecks}
use Rattle.ir_core.specs.Refines.{ModuleRefines}
use Rattle.ir_reader.specs.Faults.{IsModuleText}
use Rattle.ir_printer.specs.Forms.{ModuleHasForms}
use Rattle.ir_printer.specs.PrintedText.{text_of}
use Rattle.ir_printer.specs.Report.{report_of}
use Rattle.strategy_core.specs.Countable.{ModuleIsCountable}
use Rattle.strategy_core.specs.Decided.{MatchesAreDecided}
use Rattle.strategy_core.specs.PlainStrategy.{IsPlainStrategy}
use Rattle.verdict.specs.Rule.{Rule}
use Rattle.verdict.specs.Table.{IsHonestTable, table_text}
use Rattle.verdict_core.specs.declared.verdicts.Row.{Row}

-- a module that the strategy takes, with any number of steps, and that has the forms of a printed text
pub record IsReady (m : Module) : Type 0 where
  pub checks : ModuleMeetsChecks m
  pub forms : ModuleHasForms m
  pub countable : (steps : ℕ) → steps ≤ most_steps → ModuleIsCountable steps m

-- What `optimise` writes for the text of a module by these rules: a new module, by a table of verdicts, with the count
-- of rewrites of each function, and whether it ran out of steps.
pub record IsOptimised (rules : List Rule) (options : OptimiseOptions) (bytes : List ℕ) (new : Module) (table : List Row) (counts : List ℕ) (limited : List Bool) : Type 0 where
  pub read : Module
  pub source : IsModuleText bytes read
  -- it is what the plain strategy gives for the module read, by this table
  pub strategy : IsPlainStrategy options.fold options.across rules options.steps table read new counts limited
  -- a rule that is admitted is valid there, a counterexample is one, and a search gave up only at its limit
  pub honest : IsHonestTable rules options.conflicts table
  -- each match that is left has a verdict, and none is admitted, unless its function ran out of steps
  pub decided : MatchesAreDecided options.across rules table new limited
  -- it refines the module that was read
  pub refines : ModuleRefines read new
  pub checks : ModuleMeetsChecks new
  -- its printed form, however long, reads as the module again
  pub reads : IsModuleText (text_of new) new

-- the report: the texts of the verdicts in order, and then a line for each function
abbrev pub optimised_report : List Rule → List Row → Module → List ℕ → List Bool → List ℕ
optimised_report rules table new counts limited = table_text rules table ++ report_of new counts limited

-- the printed form of such a module, the report on it, and its table
pub record Prints (rules : List Rule) (options : OptimiseOptions) (bytes out report : List ℕ) (table : List Row) : Type 0 where
  pub new : Module
  pub counts : List ℕ
  pub limited : List Bool
  pub optimised : IsOptimised rules options bytes new table counts limited
  pub out_is : out ≡ text_of new
  pub report_is : report ≡ optimised_report rules table new counts limited
