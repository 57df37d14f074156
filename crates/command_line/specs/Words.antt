-- What the words of a command line say.
use Rattle.std.specs.Prelude.{◌≡◌, ℕ, Bool, List, if◌then◌else◌, [], map, Option, Some, None, option_map, unwrap_or, codes}
use Rattle.std.specs.Str.Parse.{digits_value, without_leading_plus}
use Rattle.clap.specs.Words.{Row, Text, all_of, first_of, subcommand_of, takes}
use Rattle.command_line.specs.Definition.{program}
use Rattle.command_line.specs.Widths.{IsWidthList}
use Rattle.command_line.specs.declared.command.Command.{Command}
use Rattle.command_line.specs.declared.command.Command.TheVariants.{Verify, Optimise, Run, Load, Recheck}
use Rattle.command_line.specs.declared.command.OptimiseOptions.{OptimiseOptions}
use Rattle.command_line.specs.declared.command.RecheckOptions.{RecheckOptions}
use Rattle.command_line.specs.declared.command.RunOptions.{RunOptions}
use Rattle.command_line.specs.declared.command.VerifyOptions.{VerifyOptions}

-- `clap` takes the words, of which the first is the program's own name
unfoldable pub are_taken : List Text → Bool
are_taken words = takes program words

-- the name of the command, and the rows of its arguments: what `clap` took from the words, or defaults
unfoldable pub command_and_rows : List Text → Option (Text × List Row)
command_and_rows words = subcommand_of program words

-- the number that a word spells: digits, with an optional plus sign before them
abbrev pub number_said : Text → ℕ
number_said word = digits_value 10 (without_leading_plus word)

-- the argument has this one text
abbrev pub HasText : List Row → Text → Text → Type 0
HasText rows argument text = first_of argument rows ≡ Some text

-- the argument has this text, or may be left out
abbrev pub MayHaveText : List Row → Text → Option Text → Type 0
MayHaveText rows argument text = first_of argument rows ≡ text

-- the argument has these texts, in order; there may be none
abbrev pub HasTexts : List Row → Text → List Text → Type 0
HasTexts rows argument texts = unwrap_or (all_of argument rows) [] ≡ texts

-- the argument has this number
abbrev pub HasNumber : List Row → Text → ℕ → Type 0
HasNumber rows argument number = option_map number_said (first_of argument rows) ≡ Some number

-- a flag: its text is `true` where it stands among the words, and else `false`
abbrev pub HasFlag : List Row → Text → Bool → Type 0
HasFlag rows argument flag = first_of argument rows ≡ Some (if flag then codes "true" else codes "false")

-- the words say `verify`, with these arguments
pub record SaysVerify (rows : List Row) (rules : Text) (options : VerifyOptions) : Type 0 where
  pub rules_file : HasText rows (codes "rules") rules
  pub width_list : (text : Text) × HasText rows (codes "widths") text × IsWidthList text options.widths
  pub most_conflicts : HasNumber rows (codes "conflicts") options.conflicts
  pub asks_logs : HasFlag rows (codes "logs") options.logs

-- the words say `optimise`, with these arguments
pub record SaysOptimise (rows : List Row) (rules source : Text) (logs : Option Text) (options : OptimiseOptions) : Type 0 where
  pub rules_file : HasText rows (codes "rules") rules
  pub module_file : HasText rows (codes "module") source
  pub most_conflicts : HasNumber rows (codes "conflicts") options.conflicts
  pub most_steps : HasNumber rows (codes "steps") options.steps
  pub logs_file : MayHaveText rows (codes "logs") logs
  pub asks_fold : HasFlag rows (codes "fold") options.fold
  pub asks_across : HasFlag rows (codes "across") options.across

-- the words say `run`, with these arguments
pub record SaysRun (rows : List Row) (source name : Text) (arguments : List Text) (options : RunOptions) : Type 0 where
  pub module_file : HasText rows (codes "module") source
  pub function_name : HasText rows (codes "name") name
  pub function_arguments : HasTexts rows (codes "arguments") arguments
  pub most_blocks : HasNumber rows (codes "blocks") options.blocks

-- the words say `recheck`, with these arguments
pub record SaysRecheck (rows : List Row) (rules logs : Text) (options : RecheckOptions) : Type 0 where
  pub rules_file : HasText rows (codes "rules") rules
  pub logs_file : HasText rows (codes "logs") logs
  pub most_conflicts : HasNumber rows (codes "conflicts") options.conflicts

abbrev pub SaysOf : Option (Text × List Row) → Command → Type 0
SaysOf None command = ⊥
SaysOf (Some said) (Verify rules options) = (said.0 ≡ codes "verify") × SaysVerify said.1 rules.now options
SaysOf (Some said) (Optimise rules source logs options) = (said.0 ≡ codes "optimise") × SaysOptimise said.1 rules.now source.now (option_map (λ name. name.now) logs) options
SaysOf (Some said) (Run source name arguments options) = (said.0 ≡ codes "run") × SaysRun said.1 source.now name.now (map (λ argument. argument.now) arguments) options
SaysOf (Some said) (Load number) = (said.0 ≡ codes "load") × HasNumber said.1 (codes "number") number
SaysOf (Some said) (Recheck rules logs options) = (said.0 ≡ codes "recheck") × SaysRecheck said.1 rules.now logs.now options

-- the words say this command
abbrev pub Says : List Text → Command → Type 0
Says words command = SaysOf (command_and_rows words) command
