-- Arguments that have the values that reading a command needs.
use Rattle.std.specs.Prelude.{◌≡◌, ◌⊎◌, ℕ, Bool, true, false, List, Some, codes, is_some}
use Rattle.clap.specs.Words.{IsUnsignedIn, Row, Text, first_of, one_of}
use Rattle.command_line.specs.Limits.{most_conflicts, most_steps, most_blocks, most_number}
use Rattle.command_line.specs.Usage.{list_of, refusal_of_list}
use Rattle.command_line.specs.Words.{HasText, HasFlag, are_taken}
use Rattle.command_line.specs.Widths.{is_width_list}
use Rattle.command_line.specs.declared.command.CommandError.{CommandError}
use Rattle.command_line.specs.declared.command.CommandError.TheVariants.{Usage, NoMemory}

-- the argument has a text
abbrev pub HasValue : List Row → Text → Type 0
HasValue rows argument = is_some (first_of argument rows) ≡ true

-- the argument has a number from 0 to `most`, which the getter reads as it is written
abbrev pub HasNumberUpTo : ℕ → List Row → Text → Type 0
HasNumberUpTo most rows argument = (text : Text) × (first_of argument rows ≡ Some text) × (one_of argument rows ≡ Some text) × IsUnsignedIn 0 most text

-- the flag has one of its two texts, which the getter reads as it is written
abbrev pub HasTruth : List Row → Text → Type 0
HasTruth rows argument = (flag : Bool) × HasFlag rows argument flag × (one_of argument rows ≡ first_of argument rows)

-- each argument of `verify` has its value; below the same of `optimise`, of `run` (whose ARGs may be none), of `load`
-- and of `recheck`
pub record HasVerify (rows : List Row) : Type 0 where
  pub rules_file : HasValue rows (codes "rules")
  pub width_list : HasValue rows (codes "widths")
  pub most_conflicts : HasNumberUpTo most_conflicts rows (codes "conflicts")
  pub asks_logs : HasTruth rows (codes "logs")

pub record HasOptimise (rows : List Row) : Type 0 where
  pub rules_file : HasValue rows (codes "rules")
  pub module_file : HasValue rows (codes "module")
  pub most_conflicts : HasNumberUpTo most_conflicts rows (codes "conflicts")
  pub most_steps : HasNumberUpTo most_steps rows (codes "steps")
  pub asks_fold : HasTruth rows (codes "fold")
  pub asks_across : HasTruth rows (codes "across")

pub record HasRun (rows : List Row) : Type 0 where
  pub module_file : HasValue rows (codes "module")
  pub function_name : HasValue rows (codes "name")
  pub most_blocks : HasNumberUpTo most_blocks rows (codes "blocks")

pub record HasLoad (rows : List Row) : Type 0 where
  pub number : HasNumberUpTo most_number rows (codes "number")

pub record HasRecheck (rows : List Row) : Type 0 where
  pub rules_file : HasValue rows (codes "rules")
  pub logs_file : HasValue rows (codes "logs")
  pub most_conflicts : HasNumberUpTo most_conflicts rows (codes "conflicts")

-- a usage error comes only of a list of widths that is malformed, and names it
abbrev pub RefusesList : List Row → CommandError → Type 0
RefusesList rows NoMemory = Unit {0}
RefusesList rows (Usage text) = (list : Text) × HasText rows (codes "widths") list × (is_width_list list ≡ false) × (text.items ≡ refusal_of_list list)

-- a usage error comes only of words that `clap` doesn't take
abbrev pub IsUntaken : List Text → CommandError → Type 0
IsUntaken words NoMemory = Unit {0}
IsUntaken words (Usage text) = are_taken words ≡ false

-- the command is one of the five, and each of its arguments has its value
abbrev pub IsKnown : Text × List Row → Type 0
IsKnown said = ((said.0 ≡ codes "verify") × HasVerify said.1) ⊎ (((said.0 ≡ codes "optimise") × HasOptimise said.1)
    ⊎ (((said.0 ≡ codes "run") × HasRun said.1)
    ⊎ (((said.0 ≡ codes "load") × HasLoad said.1) ⊎ ((said.0 ≡ codes "recheck") × HasRecheck said.1))))

-- a usage error comes only of a LIST that is malformed, and names it
abbrev pub RefusesGiven : Text × List Row → CommandError → Type 0
RefusesGiven said NoMemory = Unit {0}
RefusesGiven said (Usage text) = (list : Text) × (list_of (Some said) ≡ Some list) × (is_width_list list ≡ false) × (text.items ≡ refusal_of_list list)
