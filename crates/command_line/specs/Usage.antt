-- When words say no command, and the text for the error stream then.
use Rattle.std.specs.Prelude.{◌≡◌, ◌⊎◌, false, List, ◌++◌, Option, Some, None, if◌then◌else◌, codes}
use Rattle.std.specs.Str.{bytes_eq}
use Rattle.clap.specs.Words.{Row, Text, first_of}
use Rattle.command_line.specs.Widths.{is_width_list}
use Rattle.command_line.specs.Words.{are_taken, command_and_rows}
use Rattle.command_line.specs.declared.command.CommandError.{CommandError}
use Rattle.command_line.specs.declared.command.CommandError.TheVariants.{Usage, NoMemory}

-- LIST of `verify`, as it was given, or its default
abbrev pub list_of : Option (Text × List Row) → Option Text
list_of None = None
list_of (Some said) = if bytes_eq said.0 (codes "verify") then first_of (codes "widths") said.1 else None

abbrev pub list_given : List Text → Option Text
list_given words = list_of (command_and_rows words)

-- LIST is malformed
abbrev pub HasBadList : List Text → Text → Type 0
HasBadList words text = (list_given words ≡ Some text) × (is_width_list text ≡ false)

-- the text for a LIST that is malformed
abbrev pub refusal_of_list : Text → Text
refusal_of_list text = codes "error: widths " ++ text ++ codes "\n"

-- a usage error comes only of words that `clap` doesn't take, or of a LIST that is malformed
abbrev pub IsUsageOf : List Text → CommandError → Type 0
IsUsageOf words NoMemory = Unit {0}
IsUsageOf words (Usage text) = (are_taken words ≡ false) ⊎ ((list : Text) × HasBadList words list)

-- the error names the list of widths
abbrev pub IsRefusalOf : Text → CommandError → Type 0
IsRefusalOf list NoMemory = Unit {0}
IsRefusalOf list (Usage text) = text.items ≡ refusal_of_list list
