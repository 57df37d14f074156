-- What the words of a command line ask for.
use Rattle.std.specs.Prelude.{◌≡◌, ℕ, true, List, Option, map, option_map}
use Rattle.command_line.specs.declared.command.Command.{Command}
use Rattle.command_line.specs.declared.command.Command.TheVariants as commands
use Rattle.command_line.specs.declared.command.OptimiseOptions.{OptimiseOptions}
use Rattle.command_line.specs.declared.command.RecheckOptions.{RecheckOptions}
use Rattle.command_line.specs.declared.command.RunOptions.{RunOptions}
use Rattle.command_line.specs.declared.command.VerifyOptions.{VerifyOptions}
use Rattle.command_line.specs.Words.{are_taken, Says}

-- a command, with the names of its files, or with the number that a module is generated from
pub data Task : Type 0 where
  Verify : (rules : List ℕ) → (options : VerifyOptions) → Task
  Optimise : (rules source : List ℕ) → (logs : Option (List ℕ)) → (options : OptimiseOptions) → Task
  Run : (source name : List ℕ) → (arguments : List (List ℕ)) → (options : RunOptions) → Task
  Load : (number : ℕ) → Task
  Recheck : (rules logs : List ℕ) → (options : RecheckOptions) → Task

-- the task of a command, with bytes in place of references
abbrev pub task_of : Command → Task
task_of (commands.Verify rules options) = Verify rules.now options
task_of (commands.Optimise rules source logs options) = Optimise rules.now source.now (option_map (λ name. name.now) logs) options
task_of (commands.Run source name arguments options) = Run source.now name.now (map (λ a. a.now) arguments) options
task_of (commands.Load number) = Load number
task_of (commands.Recheck rules logs options) = Recheck rules.now logs.now options

-- the words ask for this task
pub record Asks (words : List (List ℕ)) (task : Task) : Type 0 where
  pub taken : are_taken words ≡ true
  pub command : Command
  pub says : Says words command
  pub is : task_of command ≡ task
